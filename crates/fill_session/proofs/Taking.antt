-- The branch that a row takes.
use Rattle.std.proofs.Common.{◌≡◌, ℕ, suc, ◌+◌, ◌-◌, ◌<◌, List, [], ◌∷◌, ◌++◌, length, Option, None, Some, refl, sym, ap, subst, ◌∙◌, length-append, arith}
use Rattle.std.specs.Prelude.{slice_get}
use Rattle.fill_tree.specs.Meaning.{program_tree}
use Rattle.fill_tree.specs.Tree.{Atoms}
use Rattle.fill_tree.specs.Value.{IsValue, ProgramIs}
use Rattle.fill_tree.specs.declared.user.Example.{Example}
use Rattle.fill_space.specs.declared.ground.Ground.{Ground}
use Rattle.fill_space.specs.Objector.{ObjectionIs, ObjectionTree, ObjectsOn}
use Rattle.fill_session.specs.Answers.{AnswerIs, IsBranchAt, StateIs}
use Rattle.fill_session.specs.Branches.{BranchData, lists_of}
use Rattle.fill_session.specs.Objector.{ObjectorIs}
use Rattle.fill_session.specs.State.{AreShown, IsBranch}
use Rattle.fill_session.specs.Taken.{IsFirstTaker, IsTaken}
use Rattle.fill_session.specs.declared.answer.Answer.{Answer}
use Rattle.fill_session.specs.declared.answer.State.TheVariants.{Sure}
use Rattle.fill_session.specs.declared.branch.Branch.{Branch}
use Rattle.fill_session.proofs.Answering.{taken_at}
use Rattle.fill_session.proofs.Held.{lists_long}
use Rattle.fill_session.proofs.OneAnswer.{value_is_one}
use Rattle.fill_session.proofs.OneFate.{branches_are_one}
use Rattle.fill_session.proofs.Reproduced.{branch_is_one}

list_at : (before : List BranchData) (b : BranchData) (after : List BranchData) → slice_get (lists_of (before ++ b ∷ after)) (length before) ≡ Some b.examples
list_at [] b after = refl
list_at (x ∷ before) b after = list_at before b after

module _ (g : Ground) (xs : List Example) (row n : ℕ) (text : Option (List ℕ)) (t : IsTaken g xs row n text) where
  pub within : n - 1 < length t.branches
  within =
      let e = t.place.5 in
      let size : length t.branches ≡ length t.place.0 + length (t.branch ∷ t.place.1) = ap length t.place.2 ∙ length-append t.place.0 (t.branch ∷ t.place.1) in
      omega arith

  pub is_branch : IsBranch g xs n t.branch.examples
  is_branch = (
    lists_of t.branches,
    length t.place.0,
    t.are.placed,
    subst (λ bs. slice_get (lists_of bs) (length t.place.0) ≡ Some t.branch.examples) (sym t.place.2) (list_at t.place.0 t.branch t.place.1),
    t.place.5,
  )

  -- counted from 0
  pub is_branch_from_0 : IsBranch g xs (suc (n - 1)) t.branch.examples
  is_branch_from_0 = let e = t.place.5 in let same : n ≡ suc (n - 1) = omega arith in subst (λ m. IsBranch g xs m t.branch.examples) same is_branch

-- without examples there is no branch
pub none_taken : {A : Type 0} (g : Ground) (row n : ℕ) (text : Option (List ℕ)) → IsTaken g [] row n text → A
none_taken g row n text t =
    let none : length (lists_of t.branches) ≡ 0 = ap length t.are.placed in
    let long = lists_long t.branches in
    let lt = within g [] row n text t in
    absurd (omega arith)

-- the first of the shown branches that takes the row
pub is_taken : (g : Ground) (xs : List Example) (shown : List Branch) (row k n : ℕ) (text : Option (List ℕ)) (are : AreShown g xs shown) (first : IsFirstTaker g.sheet row shown k) → n ≡ k + 1
    → IsValue (ProgramIs g.sheet g.tables row (program_tree first.branch.program)) text → IsTaken g xs row n text
is_taken g xs shown row k n text are first is value =
    let at = taken_at g.sheet shown row k are.0 are.2 first in
    let same : suc k ≡ n = omega arith in
    record {
      branches = are.0;
      branch = at.branch;
      are = are.1;
      place = subst (λ m. IsBranchAt g.sheet row are.0 m at.branch) same at.place;
      value = subst (λ (p : Atoms). IsValue (ProgramIs g.sheet g.tables row p) text) at.shows.program value;
    }

-- the answer of the row
pub answer_taken : (g : Ground) (xs : List Example) (row : ℕ) (a : Answer) (t : IsTaken g xs row a.branch a.text) → StateIs g xs t.branch.examples row a.state → AnswerIs g xs row a
answer_taken g [] row a t state = none_taken g row a.branch a.text t
answer_taken g (e ∷ es) row a t state = (t.branches, t.branch, t.are, t.place, t.value, state)

pub answer_untaken : (g : Ground) (xs : List Example) (row : ℕ) → xs ≡ [] → AnswerIs g xs row (record { branch = 0; text = None; state = Sure })
answer_untaken g [] row is = (refl, refl, refl)
answer_untaken g (e ∷ es) row is = absurd (let impossible = is in cc)

-- and its objector
pub objector_taken : (g : Ground) (xs : List Example) (row n : ℕ) (text : Option (List ℕ)) (t : IsTaken g xs row n text) (found : Option ObjectionTree) → ObjectionIs g t.branch.examples row text found → ObjectorIs g xs row found
objector_taken g [] row n text t found h = none_taken g row n text t
objector_taken g (e ∷ es) row n text t found h = (t.branches, n, t.branch, text, t.are, t.place, t.value, h)

pub objector_untaken : (g : Ground) (xs : List Example) (row : ℕ) → xs ≡ [] → ObjectorIs g xs row None
objector_untaken g [] row is = refl
objector_untaken g (e ∷ es) row is = absurd (let impossible = is in cc)

-- who objects to what its program answers
pub objects_taken : (g : Ground) (xs : List Example) (row n : ℕ) (text : Option (List ℕ)) (t : IsTaken g xs row n text) (o : ObjectionTree) → ObjectorIs g xs row (Some o) → ObjectsOn g t.branch.examples row text o.program
objects_taken g [] row n text t o k = none_taken g row n text t
objects_taken g (e ∷ es) row n text t o k =
    let lists : k.0 ≡ t.branches = branches_are_one g (e ∷ es) k.0 t.branches k.4 t.are in
    let at = subst (λ (l : List BranchData). IsBranchAt g.sheet row l k.1 k.2) lists k.5 in
    let one = branch_is_one g.sheet row t.branches k.1 n k.2 t.branch at t.place in
    let said : k.3 ≡ text =
    value_is_one (ProgramIs g.sheet g.tables row t.branch.program) k.3 text (subst (λ (x : BranchData). IsValue (ProgramIs g.sheet g.tables row x.program) k.3) one.1 k.6) t.value in
    subst (λ (w : Option (List ℕ)). ObjectsOn g t.branch.examples row w o.program) said (subst (λ (x : BranchData). ObjectsOn g x.examples row k.3 o.program) one.1 (k.7).least.has)
