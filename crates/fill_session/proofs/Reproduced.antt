-- Each example is reproduced by the branch that its row takes.
use Rattle.std.proofs.Common.{◌≡◌, ℕ, zero, suc, List, [], ◌∷◌, ◌++◌, length, Option, Some, refl, sym, ap, ◌∙◌, subst, arith}
use Rattle.std.specs.Prelude.{slice_get, All, Contains}
use Rattle.std.proofs.lemmas.Option.{same_Some}
use Rattle.std.proofs.lemmas.List.Elements.{All-nil, All-cons, All-contains}
use Rattle.fill_text.specs.Data.{SheetData}
use Rattle.fill_tables.specs.Keys.{KeysDistinguish}
use Rattle.fill_tree.specs.Guard.{GuardHolds}
use Rattle.fill_tree.specs.Tree.{Atoms}
use Rattle.fill_tree.specs.Value.{ProgramIs}
use Rattle.fill_tree.specs.declared.guard.Guard.{Guard}
use Rattle.fill_tree.specs.declared.user.Example.{Example}
use Rattle.fill_tree.proofs.ValueLaws.{program_one}
use Rattle.fill_space.specs.declared.ground.Ground.{Ground}
use Rattle.fill_space.specs.Doubt.{AnswersOn}
use Rattle.fill_space.specs.Ground.{ChosenOn, ExplainsOn, FitsOn, WeighsOn}
use Rattle.fill_session.specs.Answers.{IsBranchAt, TakesRow}
use Rattle.fill_session.specs.Branches.{AreBranches, AreGuarded, BranchData, IsGuardBefore, all_rows, lists_of, rule_of_profile}
use Rattle.fill_session.specs.Edits.{rows_of}
use Rattle.fill_session.specs.Laws.{IsReproducedBy}
use Rattle.fill_session.proofs.Firsts.{contains_at, contains_map, first_is_one}
use Rattle.fill_session.proofs.Listed.{IsListed, contains_flat, placed_listed}

-- each example stands in the list of a branch
pub example_listed : (g : Ground) (xs : List Example) (bs : List BranchData) (e : Example) → AreBranches g xs bs → Contains xs e → IsListed (lists_of bs) e
example_listed g xs bs e are c =
    let at = contains_at xs e c in
    placed_listed (rule_of_profile g.settings.profile) (FitsOn g) (WeighsOn g) [] xs (lists_of bs) are.placed at.0 e at.1

-- a branch takes its own rows
takes_own : (g : Ground) (rows : List ℕ) (later : List (List Example)) (guard : Option Guard) (row : ℕ) → IsGuardBefore g rows later guard → Contains rows row → TakesRow g.sheet row guard
takes_own g rows [] guard row h c = subst (λ (o : Option Guard). TakesRow g.sheet row o) (sym h) tt
takes_own g rows (l ∷ later) guard row h c =
    subst (λ (o : Option Guard). TakesRow g.sheet row o) (sym h.1)
    (All-contains (λ (r : ℕ). GuardHolds g.sheet r h.0) rows row ((h.2).separates).holds c)

-- and none of the rows of later branches
fails_later : (g : Ground) (rows : List ℕ) (later : List (List Example)) (guard : Option Guard) (row : ℕ) → IsGuardBefore g rows later guard → Contains (all_rows later) row → ¬ (TakesRow g.sheet row guard)
fails_later g rows [] guard row h c t = let lt = c.1 in absurd (omega arith)
fails_later g rows (l ∷ later) guard row h c t =
    All-contains (λ (r : ℕ). ¬ (GuardHolds g.sheet r h.0)) (all_rows (l ∷ later)) row ((h.2).separates).fails c
    (subst (λ (o : Option Guard). TakesRow g.sheet row o) h.1 t)

-- the branch that holds an example is the first that takes its row
pub record HoldsAndTakes (g : Ground) (bs : List BranchData) (e : Example) : Type 0 where
  pub branch : BranchData
  pub before : List BranchData
  pub after : List BranchData
  pub parts : bs ≡ before ++ branch ∷ after
  pub earlier : All (λ c. ¬ (TakesRow g.sheet e.row c.guard)) before
  pub takes : TakesRow g.sheet e.row branch.guard
  pub holds : Contains branch.examples e
  pub chosen : ChosenOn g branch.examples branch.program

holder : (g : Ground) (bs : List BranchData) (e : Example) → AreGuarded g bs → (k : ℕ) (list : List Example) → slice_get (lists_of bs) k ≡ Some list → Contains list e → HoldsAndTakes g bs e
holder g [] e h k list at c = absurd cc
holder g (b ∷ bs) e h zero list at c =
    let same : list ≡ b.examples = cc in
    let own : Contains b.examples e = subst (λ (l : List Example). Contains l e) same c in
    record {
      branch = b;
      before = [];
      after = bs;
      parts = refl;
      earlier = All-nil (λ (x : BranchData). ¬ (TakesRow g.sheet e.row x.guard));
      takes = takes_own g (rows_of b.examples) (lists_of bs) b.guard e.row h.0 (contains_map (λ (x : Example). x.row) b.examples e own);
      holds = own;
      chosen = h.1;
    }
holder g (b ∷ bs) e h (suc k) list at c =
    let rest = holder g bs e h.2 k list at c in
    let row : Contains (rows_of list) e.row = contains_map (λ (x : Example). x.row) list e c in
    let fails = fails_later g (rows_of b.examples) (lists_of bs) b.guard e.row h.0 (contains_flat rows_of (lists_of bs) k list e.row at row) in
    record {
      branch = rest.branch;
      before = b ∷ rest.before;
      after = rest.after;
      parts = ap (λ (l : List BranchData). b ∷ l) rest.parts;
      earlier = All-cons (λ (x : BranchData). ¬ (TakesRow g.sheet e.row x.guard)) b rest.before fails rest.earlier;
      takes = rest.takes;
      holds = rest.holds;
      chosen = rest.chosen;
    }

pub holder_of : (g : Ground) (xs : List Example) (bs : List BranchData) (e : Example) → AreBranches g xs bs → Contains xs e → HoldsAndTakes g bs e
holder_of g xs bs e are c = let s = example_listed g xs bs e are c in holder g bs e are.guarded s.place s.list s.here s.holds

pub example_taken : (g : Ground) (xs : List Example) (bs : List BranchData) (e : Example) → AreBranches g xs bs → Contains xs e → (n : ℕ) × (b : BranchData) × IsBranchAt g.sheet e.row bs n b
example_taken g xs bs e are c =
    let h = holder_of g xs bs e are c in
    (suc (length h.before), h.branch, (h.before, h.after, h.parts, h.earlier, h.takes, refl))

-- at most one branch is a row's
pub branch_is_one : (sheet : SheetData) (row : ℕ) (bs : List BranchData) (n m : ℕ) (b c : BranchData) → IsBranchAt sheet row bs n b → IsBranchAt sheet row bs m c → (n ≡ m) × (b ≡ c)
branch_is_one sheet row bs n m b c h k =
    let one = first_is_one (λ (x : BranchData). TakesRow sheet row x.guard) h.0 k.0 h.1 k.1 b c (sym h.2 ∙ k.2) h.3 h.4 k.3 k.4 in
    (h.5 ∙ ap suc one.0 ∙ sym k.5, one.1)

-- what explains examples has the text of each as its value there
pub explained_value : (g : Ground) (xs : List Example) (p : Atoms) (e : Example) → ExplainsOn g xs p → Contains xs e → ProgramIs g.sheet g.tables e.row p e.text
explained_value g xs p e h c = All-contains (λ (x : Example). ProgramIs g.sheet g.tables x.row p x.text) xs e h.values c

-- so that is the one answer there
one_text : (g : Ground) (xs : List Example) (e : Example) (o : Option (List ℕ)) → Contains xs e → AnswersOn g xs e.row o → o ≡ Some e.text
one_text g xs e o c a = (a.2 e.text).0 (explained_value g xs a.0 e a.1 c)

pub example_reproduced : (g : Ground) (xs : List Example) (bs : List BranchData) (e : Example) → KeysDistinguish g.tables → AreBranches g xs bs → Contains xs e
    → (n : ℕ) (b : BranchData) → IsBranchAt g.sheet e.row bs n b → IsReproducedBy g e b
example_reproduced g xs bs e keys are c n b at =
    let h = holder_of g xs bs e are c in
    let one = branch_is_one g.sheet e.row bs (suc (length h.before)) n h.branch b (h.before, h.after, h.parts, h.earlier, h.takes, refl) at in
    subst (λ (x : BranchData). IsReproducedBy g e x) one.1 (reproduced h)
  where
    reproduced : (h : HoldsAndTakes g bs e) → IsReproducedBy g e h.branch
    reproduced h =
        let own : ProgramIs g.sheet g.tables e.row (h.branch).program e.text = explained_value g (h.branch).examples (h.branch).program e (h.chosen).has h.holds in
        record {
          held = h.holds;
          value = λ v. (
            λ p. ap Some (program_one g.sheet g.tables keys e.row (h.branch).program e.text v own p),
            λ same. subst (λ (w : List ℕ). ProgramIs g.sheet g.tables e.row (h.branch).program w) (same_Some e.text v same) own,
          );
          sure = λ d. d.4 (one_text g (h.branch).examples e d.0 h.holds d.2 ∙ sym (one_text g (h.branch).examples e d.1 h.holds d.3));
        }
