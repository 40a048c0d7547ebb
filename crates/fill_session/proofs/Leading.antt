-- What the first programs of a branch tell of a row.
use Rattle.std.proofs.Common.{◌≡◌, ◌⊎◌, inl, inr, ℕ, ◌<◌, ◌^◌, List, length, map, get_or, Option, None, Some, sym, ap, subst, ◌∙◌, arith}
use Rattle.std.specs.List.{All, AllWithin, Contains}
use Rattle.std.proofs.lemmas.Bool.{cases_lt}
use Rattle.std.proofs.lemmas.List.{get_or-map, length-map}
use Rattle.std.proofs.lemmas.List.Elements.{All-contains, All-from_all_within, All-map}
use Rattle.fill_tree.specs.Chosen.{IsLeast}
use Rattle.fill_tree.specs.Cost.{program_cost}
use Rattle.fill_tree.specs.Meaning.{program_tree}
use Rattle.fill_tree.specs.Order.{Before}
use Rattle.fill_tree.specs.Tree.{Atoms}
use Rattle.fill_tree.specs.Value.{IsValue, ProgramIs}
use Rattle.fill_tree.specs.declared.tree.Program.{Program}
use Rattle.fill_tree.specs.declared.user.Example.{Example}
use Rattle.fill_tree.proofs.ProgramOrder.{before_not_after, before_trans, not_before_itself}
use Rattle.fill_object.specs.Objector.{Answers}
use Rattle.fill_object.specs.declared.graph.Objection.{Objection}
use Rattle.fill_space.specs.Best.{AreBestOn}
use Rattle.fill_space.specs.Ground.{ExplainsOn}
use Rattle.fill_space.specs.declared.ground.Ground.{Ground}
use Rattle.fill_space.specs.Objector.{IsObjectionOn, ObjectsOn, objection_tree}
use Rattle.fill_space.specs.Spaces.{SpacesData, SpaceStands}
use Rattle.fill_session.specs.Suggested.{ComesFirst, ObjectsBy}
use Rattle.fill_session.specs.declared.suggestion.Suggestion.{Suggestion}

-- these programs are the first that explain the examples, and this is said of the row
module _ (g : Ground) (examples : List Example) (k : ℕ) (ps : List Program) (first : AreBestOn g examples k (map program_tree ps)) (row : ℕ) (said : Option (List ℕ)) where
  -- what is said is the program's value
  abbrev Agrees : Program → Type 0
  Agrees p = Answers g.sheet g.tables row said (program_tree p)

  -- the first ones all agree, and this program is the next
  module _ (i : ℕ) (p : Program) (lt : i < length ps) (at : p ≡ get_or ps i p) (agree : AllWithin Agrees ps 0 i) where
    listed : Contains (map program_tree ps) (program_tree p)
    listed = (i, (let size = length-map {A = Program} {B = Atoms} ps program_tree in omega arith), get_or-map program_tree ps i p (program_tree p) lt ∙ ap program_tree (sym at))

    -- what objects does not come before it
    not_after : (q : Atoms) → ObjectsOn g examples row said q → (program_tree p ≡ q) ⊎ Before g.settings.profile.prices (program_tree p) q
    not_after q objects =
        elim (first.others q objects.explains) [
          | inl c ↦ by_place c.0 (let below = c.1 in let size = length-map {A = Program} {B = Atoms} ps program_tree in omega arith) c.2
          | inr past ↦ inr (past.before (program_tree p) listed)
        ]
      where
        here : program_tree p ≡ get_or (map program_tree ps) i q
        here = ap program_tree at ∙ sym (get_or-map program_tree ps i p q lt)

        by_place : (n : ℕ) → n < length ps → get_or (map program_tree ps) n q ≡ q → (program_tree p ≡ q) ⊎ Before g.settings.profile.prices (program_tree p) q
        by_place n below is = elim (cases_lt n i) [
          | inl low ↦ absurd (objects.otherwise (subst (λ (a : Atoms). Answers g.sheet g.tables row said a) (sym (get_or-map program_tree ps n p q below) ∙ is) (agree n p (omega arith) low)))
          | inr high ↦ elim (cases_lt i n) [
            | inl later ↦ inr (subst (λ (a : Atoms). Before g.settings.profile.prices a q) (sym here)
                (subst (λ (a : Atoms). Before g.settings.profile.prices (get_or (map program_tree ps) i q) a) is
                (first.rising i n q later (let size = length-map {A = Program} {B = Atoms} ps program_tree in omega arith))))
            | inr not_later ↦ inl (here ∙ ap (λ (j : ℕ). get_or (map program_tree ps) j q) (let same : i ≡ n = omega arith in same) ∙ is)
          ]
        ]

    -- where it answers otherwise, it is the objection
    pub objection_is : (o : Objection) → ObjectsBy g row said (program_tree p) o → IsObjectionOn g examples row said (objection_tree o)
    objection_is o by =
        let least : IsLeast g.settings.profile.prices (ObjectsOn g examples row said) (program_tree p) = record {
          has = record { explains = first.have (program_tree p) listed; otherwise = by.otherwise };
          least = λ q objects before. elim (not_after q objects) [
            | inl same ↦ not_before_itself g.settings.profile.prices q (subst (λ (a : Atoms). Before g.settings.profile.prices q a) same before)
            | inr later ↦ before_not_after g.settings.profile.prices (program_tree p) q later before
          ];
        } in
        record {
          least = subst (λ (a : Atoms). IsLeast g.settings.profile.prices (ObjectsOn g examples row said) a) (sym by.same) least;
          value = subst (λ (a : Atoms). IsValue (ProgramIs g.sheet g.tables row a) o.text) (sym by.same) by.value;
        }

    -- where it does not come before the best, none that objects does
    pub none_first : (best : Option Suggestion) → ¬ (ComesFirst g.settings.profile.prices best (program_tree p)) → (q : Atoms) → ObjectsOn g examples row said q → ¬ (ComesFirst g.settings.profile.prices best q)
    none_first None late q objects = λ any. late any
    none_first (Some s) late q objects = λ before. elim (not_after q objects) [
      | inl same ↦ late (subst (λ (a : Atoms). Before g.settings.profile.prices a (program_tree s.objection.program)) (sym same) before)
      | inr later ↦ late (before_trans g.settings.profile.prices (program_tree p) q (program_tree s.objection.program) later before)
    ]

  -- where they are all that explain and all agree, none objects
  pub none_left : length ps < k → AllWithin Agrees ps 0 (length ps) → (best : Option Suggestion) (q : Atoms) → ObjectsOn g examples row said q → ¬ (ComesFirst g.settings.profile.prices best q)
  none_left few agree best q objects =
      absurd (elim (first.others q objects.explains) [
        | inl c ↦ objects.otherwise (All-contains (λ (a : Atoms). Answers g.sheet g.tables row said a) (map program_tree ps) q
            (All-map (λ (a : Atoms). Answers g.sheet g.tables row said a) program_tree ps (All-from_all_within Agrees ps agree)) c)
        | inr past ↦ (let full = past.full in let size = length-map {A = Program} {B = Atoms} ps program_tree in omega arith)
      ])

-- the first programs of a space cost numbers of 64 bits, where all of its programs do
pub few_first : (s : SpacesData) (space : ℕ) (l : List Example) (k : ℕ) (ps : List Program) → SpaceStands s space l → AreBestOn s.ground l k (map program_tree ps)
    → ((p : Atoms) → ExplainsOn s.ground l p → program_cost s.ground.settings.profile.prices p < 2 ^ 64) → All (λ p. program_cost s.ground.settings.profile.prices (program_tree p) < 2 ^ 64) ps
few_first s space l k ps stands first cheap = λ i d lt.
    let p = program_tree (get_or ps i d) in
    cheap p (first.have p (i, (let size = length-map {A = Program} {B = Atoms} ps program_tree in omega arith), get_or-map program_tree ps i d p lt))
