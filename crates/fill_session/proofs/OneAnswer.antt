-- Examples have one answer on a row, and it is the text where they have one.
use Rattle.std.proofs.Common.{◌≡◌, ℕ, List, [], ◌∷◌, Option, None, Some, refl, sym, ◌∙◌, subst, arith}
use Rattle.std.specs.Prelude.{Contains}
use Rattle.fill_tables.specs.Keys.{KeysDistinguish}
use Rattle.fill_tree.specs.Value.{IsValue, ProgramIs}
use Rattle.fill_tree.specs.declared.user.Example.{Example}
use Rattle.fill_space.specs.declared.ground.Ground.{Ground}
use Rattle.fill_session.specs.Answers.{AnswerIs, IsBranchAt, StateIs}
use Rattle.fill_session.specs.Branches.{BranchData}
use Rattle.fill_session.specs.Edits.{HasExample}
use Rattle.fill_session.specs.Laws.{IsGivenAs}
use Rattle.fill_session.specs.declared.answer.Answer.{Answer}
use Rattle.fill_session.specs.declared.answer.State.{State}
use Rattle.fill_session.specs.declared.answer.State.TheVariants.{Given, Sure, Doubt}
use Rattle.fill_session.proofs.Firsts.{contains_map}
use Rattle.fill_session.proofs.OneFate.{branches_are_one}
use Rattle.fill_session.proofs.Reproduced.{branch_is_one, example_reproduced}

-- what a property has is one value, or none
pub value_is_one : {A : Type 0} (P : A → Type 0) (o p : Option A) → IsValue P o → IsValue P p → o ≡ p
value_is_one P None None h k = refl
value_is_one P None (Some v) h k = (h v).0 ((k v).1 refl)
value_is_one P (Some v) p h k = sym ((k v).0 ((h v).1 refl))

state_is_one : (g : Ground) (examples branch : List Example) (row : ℕ) (s t : State) → StateIs g examples branch row s → StateIs g examples branch row t → s ≡ t
state_is_one g examples branch row Given Given h k = refl
state_is_one g examples branch row Given Sure h k = absurd (k.0 h)
state_is_one g examples branch row Given Doubt h k = absurd (k.0 h)
state_is_one g examples branch row Sure Given h k = absurd (h.0 k)
state_is_one g examples branch row Sure Sure h k = refl
state_is_one g examples branch row Sure Doubt h k = absurd (h.1 k.1)
state_is_one g examples branch row Doubt Given h k = absurd (h.0 k)
state_is_one g examples branch row Doubt Sure h k = absurd (k.1 h.1)
state_is_one g examples branch row Doubt Doubt h k = refl

same_answer : (a b : Answer) → a.branch ≡ b.branch → a.text ≡ b.text → a.state ≡ b.state → a ≡ b
same_answer a b n t s = λ i. record { branch = n i; text = t i; state = s i }

pub answer_is_one : (g : Ground) (examples : List Example) (row : ℕ) (a b : Answer) → AnswerIs g examples row a → AnswerIs g examples row b → a ≡ b
answer_is_one g [] row a b h k = same_answer a b (h.0 ∙ sym k.0) (h.1 ∙ sym k.1) (h.2 ∙ sym k.2)
answer_is_one g (e ∷ es) row a b h k =
    let lists : k.0 ≡ h.0 = branches_are_one g (e ∷ es) k.0 h.0 k.2 h.2 in
    let at = subst (λ (l : List BranchData). IsBranchAt g.sheet row l b.branch k.1) lists k.3 in
    let one = branch_is_one g.sheet row h.0 a.branch b.branch h.1 k.1 h.3 at in
    same_answer a b one.0
    (value_is_one (ProgramIs g.sheet g.tables row k.1.program) a.text b.text
    (subst (λ (x : BranchData). IsValue (ProgramIs g.sheet g.tables row x.program) a.text) one.1 h.4) k.4)
    (state_is_one g (e ∷ es) k.1.examples row a.state b.state (subst (λ (x : BranchData). StateIs g (e ∷ es) x.examples row a.state) one.1 h.5) k.5)

is_given : (g : Ground) (examples branch : List Example) (row : ℕ) (s : State) → HasExample examples row → StateIs g examples branch row s → s ≡ Given
is_given g examples branch row Given has h = refl
is_given g examples branch row Sure has h = absurd (h.0 has)
is_given g examples branch row Doubt has h = absurd (h.0 has)

pub example_given : (g : Ground) (examples : List Example) (e : Example) (a : Answer) → KeysDistinguish g.tables → Contains examples e → AnswerIs g examples e.row a → IsGivenAs e a
example_given g [] e a keys c h = let lt = c.1 in absurd (omega arith)
example_given g (x ∷ xs) e a keys c h =
    let r = example_reproduced g (x ∷ xs) h.0 e keys h.2 c a.branch h.1 h.3 in
    let has : HasExample (x ∷ xs) e.row = contains_map (λ (v : Example). v.row) (x ∷ xs) e c in
    (value_is_one (ProgramIs g.sheet g.tables e.row h.1.program) a.text (Some e.text) h.4 r.value, is_given g (x ∷ xs) h.1.examples e.row a.state has h.5)
