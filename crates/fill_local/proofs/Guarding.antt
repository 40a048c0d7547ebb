-- Guards over rows in pairs.
use Rattle.std.proofs.Common.{◌≡◌, ℕ, List, [], ◌∷◌, Option, None, Some, refl}
use Rattle.std.specs.List.{AllZip}
use Rattle.fill_tree.specs.Guard.{GuardHolds}
use Rattle.fill_tree.specs.Separate.{IsLeastGuard, Separates}
use Rattle.fill_tree.specs.declared.guard.Guard.{Guard}
use Rattle.fill_tree.specs.declared.user.Example.{Example}
use Rattle.fill_local.proofs.Paired.{ArePaired, SaySame}
use Rattle.fill_space.specs.declared.ground.Ground.{Ground}
use Rattle.fill_session.specs.Answers.{TakesRow}
use Rattle.fill_session.specs.Branches.{IsGuardBefore, all_rows}
use Rattle.fill_session.specs.Edits.{rows_of}
use Rattle.fill_local.proofs.Explaining.{paired_back}
use Rattle.fill_local.proofs.Grammar.{guard_in}
use Rattle.fill_local.proofs.Values.{guard_same}
use Rattle.fill_local.proofs.Zipped.{zip_all, zip_flat, zip_flip}

pub rows_zip : (Pair : ℕ → ℕ → Type 0) (es ds : List Example) → SaySame Pair es ds → AllZip Pair (rows_of es) (rows_of ds)
rows_zip Pair [] [] z = tt
rows_zip Pair [] (d ∷ ds) z = absurd z
rows_zip Pair (e ∷ es) [] z = absurd z
rows_zip Pair (e ∷ es) (d ∷ ds) z = (z.0.row, rows_zip Pair es ds z.1)

module _ (g h : Ground) (Pair : ℕ → ℕ → Type 0) (m : ArePaired g h Pair) where
  holds_to : (r q : ℕ) → Pair r q → (k : Guard) → GuardHolds g.sheet r k ≡ GuardHolds h.sheet q k
  holds_to r q pair k = guard_same g.sheet h.sheet r q (m.cells r q pair) k

  pub separates_to : (ins outs now others : List ℕ) → AllZip Pair ins now → AllZip Pair outs others → (k : Guard) → Separates g.settings g.sheet ins outs k → Separates h.settings h.sheet now others k
  separates_to ins outs now others zi zo k s = record {
    is = guard_in g.settings h.settings g.sheet h.sheet m.same.settings m.same.inputs k s.is;
    holds = zip_all Pair (λ r. GuardHolds g.sheet r k) (λ q. GuardHolds h.sheet q k) (λ r q pair x. coe 0 1 (i. holds_to r q pair k i) x) ins now zi s.holds;
    fails = zip_all Pair (λ r. ¬ (GuardHolds g.sheet r k)) (λ q. ¬ (GuardHolds h.sheet q k)) (λ r q pair x y. x (coe 1 0 (i. holds_to r q pair k i) y)) outs others zo s.fails;
  }

  pub takes_to : (r q : ℕ) → Pair r q → (o : Option Guard) → TakesRow g.sheet r o ≡ TakesRow h.sheet q o
  takes_to r q pair None = refl
  takes_to r q pair (Some k) = holds_to r q pair k

module _ (g h : Ground) (Pair : ℕ → ℕ → Type 0) (m : ArePaired g h Pair) where
  least_guard_to : (ins outs now others : List ℕ) → AllZip Pair ins now → AllZip Pair outs others → (k : Guard) → IsLeastGuard g.settings g.sheet ins outs k → IsLeastGuard h.settings h.sheet now others k
  least_guard_to ins outs now others zi zo k l = record {
    separates = separates_to g h Pair m ins outs now others zi zo k l.separates;
    least = λ j s. l.least j (separates_to h g (λ q r. Pair r q) (paired_back g h Pair m) now others ins outs (zip_flip Pair ins now zi) (zip_flip Pair outs others zo) j s);
  }

  pub before_to : (rows now : List ℕ) → AllZip Pair rows now → (lists others : List (List Example)) → AllZip (SaySame Pair) lists others → (o : Option Guard) → IsGuardBefore g rows lists o → IsGuardBefore h now others o
  before_to rows now zr [] [] z o b = b
  before_to rows now zr [] (d ∷ ds) z o b = absurd z
  before_to rows now zr (l ∷ ls) [] z o b = absurd z
  before_to rows now zr (l ∷ ls) (d ∷ ds) z o b =
      (b.0, b.1, least_guard_to rows (all_rows (l ∷ ls)) now (all_rows (d ∷ ds)) zr (zip_flat (SaySame Pair) Pair rows_of rows_of (λ x y s. rows_zip Pair x y s) (l ∷ ls) (d ∷ ds) z) b.0 b.2)
