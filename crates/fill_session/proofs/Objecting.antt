-- Who objects on a row: one at most, and one exactly where the answer is in doubt.
use Rattle.std.proofs.Common.{◌≡◌, ◌≢◌, ◌↔◌, ℕ, zero, suc, List, [], ◌∷◌, ◌++◌, Option, None, Some, Result, Ok, Err, refl, sym, ap, ◌∙◌, subst}
use Rattle.std.specs.Prelude.{slice_get, IfOk, option_map}
use Rattle.std.proofs.lemmas.Option.{same_Some}
use Rattle.fill_text.specs.declared.error.NoMemory.{NoMemory}
use Rattle.fill_tables.specs.Keys.{KeysDistinguish}
use Rattle.fill_tree.specs.Value.{IsValue, ProgramIs}
use Rattle.fill_tree.specs.declared.user.Example.{Example}
use Rattle.fill_tree.proofs.ValueLaws.{program_one}
use Rattle.fill_object.specs.Objector.{Answers}
use Rattle.fill_object.specs.declared.graph.Objection.{Objection}
use Rattle.fill_space.specs.declared.ground.Ground.{Ground}
use Rattle.fill_space.specs.Doubt.{IsDoubtful}
use Rattle.fill_space.specs.Ground.{ChosenOn}
use Rattle.fill_space.specs.Objector.{ObjectionIs, ObjectionTree, objection_tree}
use Rattle.fill_space.proofs.Objector.{objection_is_one}
use Rattle.fill_session.specs.Answers.{AnswerIs, IsBranchAt, StateIs}
use Rattle.fill_session.specs.Branches.{AreBranches, AreGuarded, BranchData}
use Rattle.fill_session.specs.Edits.{HasExample, rows_of}
use Rattle.fill_session.specs.Objector.{ObjectorIs}
use Rattle.fill_session.specs.declared.answer.Answer.{Answer}
use Rattle.fill_session.specs.declared.answer.State.{State}
use Rattle.fill_session.specs.declared.answer.State.TheVariants.{Given, Sure, Doubt}
use Rattle.fill_session.proofs.Firsts.{contains_at, contains_from}
use Rattle.fill_session.proofs.OneAnswer.{value_is_one}
use Rattle.fill_session.proofs.OneFate.{branches_are_one}
use Rattle.fill_session.proofs.Reproduced.{branch_is_one, example_reproduced, explained_value}

-- a row has one objector at most
pub objector_is_one : (g : Ground) (examples : List Example) (row : ℕ) (a b : Option ObjectionTree) → ObjectorIs g examples row a → ObjectorIs g examples row b → a ≡ b
objector_is_one g [] row a b h k = h ∙ sym k
objector_is_one g (e ∷ es) row a b h k =
    let lists : k.0 ≡ h.0 = branches_are_one g (e ∷ es) k.0 h.0 k.4 h.4 in
    let at = subst (λ (l : List BranchData). IsBranchAt g.sheet row l k.1 k.2) lists k.5 in
    let one = branch_is_one g.sheet row h.0 h.1 k.1 h.2 k.2 h.5 at in
    let text : h.3 ≡ k.3 =
    value_is_one (ProgramIs g.sheet g.tables row k.2.program) h.3 k.3 (subst (λ (x : BranchData). IsValue (ProgramIs g.sheet g.tables row x.program) h.3) one.1 h.6) k.6 in
    objection_is_one g k.2.examples row k.3 a b
    (subst (λ (t : Option (List ℕ)). ObjectionIs g k.2.examples row t a) text (subst (λ (x : BranchData). ObjectionIs g x.examples row h.3 a) one.1 h.7)) k.7

-- the program of one of the branches is the chosen one of its examples
pub guarded_chosen : (g : Ground) (before : List BranchData) (b : BranchData) (after : List BranchData) → AreGuarded g (before ++ b ∷ after) → ChosenOn g b.examples b.program
guarded_chosen g [] b after h = h.1
guarded_chosen g (x ∷ before) b after h = guarded_chosen g before b after h.2

-- the example of a row
example_at : (xs : List Example) (k row : ℕ) → slice_get (rows_of xs) k ≡ Some row → (e : Example) × (slice_get xs k ≡ Some e) × (e.row ≡ row)
example_at [] k row at = absurd (let e = at in cc)
example_at (x ∷ xs) zero row at = (x, refl, (let e = at in cc))
example_at (x ∷ xs) (suc k) row at = example_at xs k row at

-- on the row of this branch, whose program answers what was said
module _ (g : Ground) (xs : List Example) (bs : List BranchData) (n : ℕ) (b : BranchData) (said : Option (List ℕ)) (row : ℕ) (keys : KeysDistinguish g.tables) (are : AreBranches g xs bs) (at : IsBranchAt g.sheet row bs n b)
    (value : IsValue (ProgramIs g.sheet g.tables row b.program) said) where
  none_doubts : ObjectionIs g b.examples row said None → IsDoubtful g b.examples row → ⊥
  none_doubts agree d =
      let first : d.0 ≡ said = value_is_one (ProgramIs g.sheet g.tables row d.2.0) d.0 said d.2.2 (agree d.2.0 d.2.1) in
      let second : d.1 ≡ said = value_is_one (ProgramIs g.sheet g.tables row d.3.0) d.1 said d.3.2 (agree d.3.0 d.3.1) in
      d.4 (first ∙ sym second)

  pub none_given : (o : ObjectionTree) → ObjectionIs g b.examples row said (Some o) → HasExample xs row → ⊥
  none_given o h has =
      let place = contains_at (rows_of xs) row has in
      let found = example_at xs place.0 row place.1 in
      let e = found.0 in
      let same : e.row ≡ row = found.2 in
      let r = example_reproduced g xs bs e keys are (contains_from xs place.0 e found.1) n b (subst (λ (k : ℕ). IsBranchAt g.sheet k bs n b) (sym same) at) in
      let told : said ≡ Some e.text =
      value_is_one (ProgramIs g.sheet g.tables row b.program) said (Some e.text) value (subst (λ (k : ℕ). IsValue (ProgramIs g.sheet g.tables k b.program) (Some e.text)) same r.value) in
      let own : ProgramIs g.sheet g.tables row o.program e.text =
      subst (λ (k : ℕ). ProgramIs g.sheet g.tables k o.program e.text) same (explained_value g b.examples o.program e h.least.has.explains r.held) in
      let answers : Answers g.sheet g.tables row (Some e.text) o.program = λ v. (
        λ p. ap Some (program_one g.sheet g.tables keys row o.program e.text v own p),
        λ is. subst (λ (w : List ℕ). ProgramIs g.sheet g.tables row o.program w) (same_Some e.text v is) own,
      ) in
      h.least.has.otherwise (subst (λ (t : Option (List ℕ)). Answers g.sheet g.tables row t o.program) (sym told) answers)

  pub some_doubts : (o : ObjectionTree) → ChosenOn g b.examples b.program → ObjectionIs g b.examples row said (Some o) → IsDoubtful g b.examples row
  some_doubts o chosen h = (
    said,
    o.text,
    (b.program, chosen.has, value),
    (o.program, h.least.has.explains, h.value),
    λ e. h.least.has.otherwise (subst (λ (t : Option (List ℕ)). Answers g.sheet g.tables row t o.program) (sym e) h.value),
  )

  one_doubts : ChosenOn g b.examples b.program → (found : Option ObjectionTree) → ObjectionIs g b.examples row said found → (s : State) → StateIs g xs b.examples row s → (found ≢ None) ↔ (s ≡ Doubt)
  one_doubts chosen None h Given x = (λ some. absurd (some refl), λ doubt. absurd (let e = doubt in cc))
  one_doubts chosen None h Sure x = (λ some. absurd (some refl), λ doubt. absurd (let e = doubt in cc))
  one_doubts chosen None h Doubt x = (λ some. absurd (some refl), λ doubt. absurd (none_doubts h x.1))
  one_doubts chosen (Some o) h Given x = absurd (none_given o h x)
  one_doubts chosen (Some o) h Sure x = absurd (x.1 (some_doubts o chosen h))
  one_doubts chosen (Some o) h Doubt x = (λ some. refl, λ doubt none. absurd (let e = none in cc))

-- there is an objector exactly where the answer is in doubt
pub objector_doubts : (g : Ground) (examples : List Example) (row : ℕ) (found : Option ObjectionTree) (a : Answer) → KeysDistinguish g.tables → ObjectorIs g examples row found → AnswerIs g examples row a → (found ≢ None) ↔ (a.state ≡ Doubt)
objector_doubts g [] row found a keys h k = (λ some. absurd (some h), λ doubt. absurd (let e : Sure ≡ Doubt = sym k.2 ∙ doubt in cc))
objector_doubts g (e ∷ es) row found a keys h k =
    let lists : k.0 ≡ h.0 = branches_are_one g (e ∷ es) k.0 h.0 k.2 h.4 in
    let at = subst (λ (l : List BranchData). IsBranchAt g.sheet row l a.branch k.1) lists k.3 in
    let one = branch_is_one g.sheet row h.0 a.branch h.1 k.1 h.2 at h.5 in
    let state = subst (λ (x : BranchData). StateIs g (e ∷ es) x.examples row a.state) one.1 k.5 in
    let place = h.5 in
    let chosen = guarded_chosen g place.0 h.2 place.1 (subst (λ (l : List BranchData). AreGuarded g l) place.2 (h.4).guarded) in
    one_doubts g (e ∷ es) h.0 h.1 h.2 h.3 row keys h.4 h.5 h.6 chosen found h.7 a.state state

pub doubts_too : (g : Ground) (examples : List Example) (row : ℕ) (r : Result (Option Objection) NoMemory) → KeysDistinguish g.tables → IfOk r (λ found. ObjectorIs g examples row (option_map objection_tree found))
    → IfOk r (λ found. (a : Answer) → AnswerIs g examples row a → (found ≢ None) ↔ (a.state ≡ Doubt))
doubts_too g examples row (Ok None) keys h = λ a k. (λ some. absurd (some refl), λ doubt. absurd ((objector_doubts g examples row None a keys h k).1 doubt refl))
doubts_too g examples row (Ok (Some o)) keys h = λ a k. ((λ some. (objector_doubts g examples row (Some (objection_tree o)) a keys h k).0 (λ none. let e = none in cc)), (λ doubt none. let e = none in cc))
doubts_too g examples row (Err want) keys h = tt
