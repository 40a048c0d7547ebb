-- marks over several calls
use Rattle.std.proofs.Common.{List}
use Rattle.fill_split.specs.Keeping.{Keeps, KeepsMarks}

pub marks_trans : {M K I : Type 0} {v w x : M → Type 0} {m n o : M → K → List I → Type 0} → KeepsMarks v w m n → KeepsMarks w x n o → KeepsMarks v x m o
marks_trans a b =
    record {
      stays = λ k h. b.stays k (a.stays k h);
      marks = λ k y l h s. b.marks k y l (a.stays k h) (a.marks k y l h s);
      only = λ k y l h s. a.only k y l h (b.only k y l (a.stays k h) s);
    }

-- a cut to a mark that was taken after all others leaves them
pub marks_cut : {M K I : Type 0} {v w x : M → Type 0} {m n o : M → K → List I → Type 0} (no_later : M → M → Type 0) (mark : M) → ((a : M) → v a → no_later a mark) → KeepsMarks v w m n → ((a : M) → no_later a mark → w a → x a) → ((a : M) → no_later a mark → w a → Keeps (n a) (o a)) → ((a : M) → no_later a mark → w a → Keeps (o a) (n a)) → KeepsMarks v x m o
marks_cut no_later mark latest a valid marked only =
    record {
      stays = λ k h. valid k (latest k h) (a.stays k h);
      marks = λ k y l h s. marked k (latest k h) (a.stays k h) y l (a.marks k y l h s);
      only = λ k y l h s. a.only k y l h (only k (latest k h) (a.stays k h) y l s);
    }
