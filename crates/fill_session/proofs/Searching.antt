-- The branch of a row in doubt, and its objector within a limit.
use Rattle.std.proofs.Common.{◌≡◌, ◌⊎◌, inl, inr, ℕ, zero, suc, ◌<◌, List, [], ◌∷◌, ◌++◌, length, get_or, Option, None, Some, Result, Ok, Err, refl, sym, ap, subst, ◌∙◌, arith}
use Rattle.std.specs.Prelude.{slice_get, IfOk}
use Rattle.std.proofs.lemmas.Option.{same_Some}
use Rattle.fill_tables.specs.Keys.{KeysDistinguish}
use Rattle.fill_tree.specs.declared.user.Example.{Example}
use Rattle.fill_space.specs.declared.ground.Ground.{Ground}
use Rattle.fill_space.specs.Objector.{ObjectionTree, ObjectionWithin}
use Rattle.fill_split.proofs.Zips.{zip_lengths}
use Rattle.fill_session.specs.Answers.{AnswerIs}
use Rattle.fill_session.specs.Branches.{AreBranches, BranchData, lists_of}
use Rattle.fill_session.specs.State.{AreShown, IsBranch, Shows}
use Rattle.fill_session.specs.Suggested.{Asked, IsAsked, ObjectorWithin}
use Rattle.fill_session.specs.Taken.{IsTaken}
use Rattle.fill_session.specs.declared.answer.Answer.{Answer}
use Rattle.fill_session.specs.declared.answer.State.TheVariants.{Sure, Doubt}
use Rattle.fill_session.specs.declared.branch.Branch.{Branch}
use Rattle.fill_session.proofs.Held.{lists_long}
use Rattle.fill_session.proofs.Objecting.{objector_doubts}
use Rattle.fill_session.proofs.OneAnswer.{answer_is_one}
use Rattle.fill_session.proofs.OneFate.{branches_are_one}
use Rattle.fill_session.proofs.Picked.{here}
use Rattle.fill_session.proofs.Taking.{objector_taken, objects_taken}

-- a row in doubt is answered so
pub asked_answer : (g : Ground) (examples : List Example) (passed : List ℕ) (q : Asked) (a : Answer) → KeysDistinguish g.tables → IsAsked g examples passed q → AnswerIs g examples q.row a → (a.state ≡ Doubt) × (a.text ≡ q.said)
asked_answer g examples passed q a keys h is =
    let one : h.said.0 ≡ a = answer_is_one g examples q.row h.said.0 a h.said.1 is in (
      (objector_doubts g examples q.row (Some q.objector) a keys h.objector is).0 (λ none. let e = none in cc),
      ap (λ (x : Answer). x.text) (sym one) ∙ h.said.2,
    )

-- the branch of a row in doubt
pub taken : (g : Ground) (xs : List Example) (row : ℕ) (a : Answer) → AnswerIs g xs row a → a.state ≡ Doubt → IsTaken g xs row a.branch a.text
taken g [] row a h doubt = absurd (let e : Sure ≡ Doubt = sym h.2 ∙ doubt in cc)
taken g (e ∷ es) row a h doubt = record { branches = h.0; branch = h.1; are = h.2; place = h.3; value = h.4 }

-- the objection to what is answered, within a limit, is the row's objector
pub objector_of : (g : Ground) (xs : List Example) (row n : ℕ) (text : Option (List ℕ)) (t : IsTaken g xs row n text) (limit : ℕ) (found : Option ObjectionTree)
    → ObjectionWithin g t.branch.examples row text limit found → ObjectorWithin g xs row (Some limit) found
objector_of g xs row n text t limit (Some o) h = objector_taken g xs row n text t (Some o) h
objector_of g xs row n text t limit None h = λ o k. h o.program (objects_taken g xs row n text t o k)

-- each branch that is shown has its examples
pub some_branch : (g : Ground) (xs : List Example) (shown : List Branch) (are : AreShown g xs shown) (k : ℕ) → k < length shown → (list : List Example) × IsBranch g xs (suc k) list
some_branch g xs shown are k lt =
    let many = zip_lengths Shows shown are.0 are.2 in
    let long = lists_long are.0 in
    (get_or (lists_of are.0) k [], (lists_of are.0, k, (are.1).placed, here (lists_of are.0) k [] (omega arith), refl))

-- as many branches as are shown
pub shown_many : (g : Ground) (xs : List Example) (shown : List Branch) (are : AreShown g xs shown) (n : ℕ) → n ≡ length shown → (bs : List BranchData) → AreBranches g xs bs → n ≡ length bs
shown_many g xs shown are n e bs h =
    let many = zip_lengths Shows shown are.0 are.2 in
    let one : length are.0 ≡ length bs = ap length (branches_are_one g xs are.0 bs are.1 h) in
    omega arith

-- what stands at a place after one more item
at_pushed : {A : Type 0} (xs : List A) (y : A) (i : ℕ) (x : A) → slice_get (xs ++ y ∷ []) i ≡ Some x → (slice_get xs i ≡ Some x) ⊎ ((i ≡ length xs) × (x ≡ y))
at_pushed [] y zero x h = inr (refl, sym (same_Some y x h))
at_pushed [] y (suc i) x h = absurd (let e = h in cc)
at_pushed (a ∷ xs) y zero x h = inl h
at_pushed (a ∷ xs) y (suc i) x h = elim (at_pushed xs y i x h) [ inl l ↦ inl l | inr r ↦ inr (ap suc r.0, r.1) ]

-- what holds of each item and its place holds after one more
pub each_pushed : {A : Type 0} (P : ℕ → A → Type 0) (xs ys : List A) (y : A) (k : ℕ) → ys ≡ xs ++ y ∷ [] → length xs ≡ k → ((i : ℕ) (x : A) → slice_get xs i ≡ Some x → P i x) → P k y → (i : ℕ) (x : A) → slice_get ys i ≡ Some x → P i x
each_pushed P xs ys y k is long each last i x at =
    elim (at_pushed xs y i x (subst (λ zs. slice_get zs i ≡ Some x) is at)) [
      | inl l ↦ each i x l
      | inr r ↦ subst (λ n. P n x) (sym (r.0 ∙ long)) (subst (λ z. P k z) (sym r.1) last)
    ]

pub ok_on : {A E : Type 0} (P Q : A → Type 0) (r : Result A E) → IfOk r P → ((x : A) → P x → Q x) → IfOk r Q
ok_on P Q (Ok x) h f = f x h
ok_on P Q (Err e) h f = h
