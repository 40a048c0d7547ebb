-- A row takes exactly one program of a switch.
use Rattle.std.proofs.Common.{◌≡◌, ◌⊎◌, inl, inr, ℕ, ◌+◌, List, [], ◌∷◌, ◌++◌, length, Bool, true, false, Option, Some, None, refl, sym, ap, ◌∙◌, subst, arith}
use Rattle.std.specs.Option.{IfSome}
use Rattle.std.specs.List.{All}
use Rattle.std.proofs.lemmas.Bool.{cases_lt}
use Rattle.std.proofs.lemmas.List.Elements.{All-cons, All-head, All-tail}
use Rattle.fill_text.specs.Data.{SheetData, TableData, cell_at}
use Rattle.fill_tables.specs.Keys.{KeysDistinguish}
use Rattle.fill_tokens.specs.Span.{Begins}
use Rattle.fill_tokens.specs.Value.{IsCount}
use Rattle.fill_tokens.specs.declared.token.Token.{Token}
use Rattle.fill_tokens.proofs.CountLaws.{count_unique}
use Rattle.fill_tokens.proofs.CutLaws.{matches_counted}
use Rattle.fill_tokens.proofs.ListsExist.{matches_exist}
use Rattle.fill_tree.specs.Tree.{Atoms}
use Rattle.fill_tree.specs.Value.{ProgramIs}
use Rattle.fill_tree.specs.Switch.{CaseTree, SwitchTree}
use Rattle.fill_tree.specs.Guard.{HasMatches, NegatedWhere, LiteralHolds, GuardHolds, NoneHolds, Takes, SwitchIs}
use Rattle.fill_tree.specs.declared.guard.Literal.{Literal}
use Rattle.fill_tree.specs.declared.guard.Guard.{Guard}
use Rattle.fill_tree.proofs.ValueLaws.{AtMostOne, program_one}

-- the fact holds or does not
abbrev Decided : Type 0 → Type 0
Decided P = P ⊎ (P → ⊥)

both_decided : (P Q : Type 0) → Decided P → Decided Q → Decided (P × Q)
both_decided P Q (inl p) (inl q) = inl (p, q)
both_decided P Q (inl p) (inr q) = inr (λ h. q h.1)
both_decided P Q (inr p) q = inr (λ h. p h.0)

-- what is asked of the value of an option that is to have one
some_decided : {A : Type 0} (o : Option A) (P : A → Type 0) → ((x : A) → Decided (P x)) → Decided ((x : A) × (o ≡ Some x) × P x)
some_decided None P decide = inr (λ h. let e = h.1 in cc)
some_decided (Some y) P decide = elim (decide y) [
  | inl holds ↦ inl (y, refl, holds)
  | inr fails ↦ inr (λ h. let e : h.0 ≡ y = cc in fails (subst P e h.2))
]

if_some_decided : {A : Type 0} (o : Option A) (P : A → Type 0) → ((x : A) → Decided (P x)) → Decided (IfSome o P)
if_some_decided None P decide = inl tt
if_some_decided (Some y) P decide = decide y

matches_decided : (r : List Token) (t : List ℕ) (least : ℕ) → Decided (HasMatches r t least)
matches_decided r t least =
    let listed = matches_exist r t in
    let n = length listed.0 in
    let counted : IsCount (Begins r t) (length t + 1) n = (matches_counted r t listed.0 listed.1 n).1 refl in
    elim (cases_lt n least) [
      | inl few ↦ inr (λ h. let e = count_unique (Begins r t) (length t + 1) h.0 n h.1 counted in omega arith)
      | inr enough ↦ inl (n, counted, enough)
    ]

negated_decided : (negated : Bool) (P : Type 0) → Decided P → Decided (NegatedWhere negated P)
negated_decided true P (inl holds) = inr (λ h. h holds)
negated_decided true P (inr fails) = inl fails
negated_decided false P decided = decided

literal_decided : (sheet : SheetData) (row : ℕ) (l : Literal) → Decided (LiteralHolds sheet row l)
literal_decided sheet row l =
    some_decided (cell_at sheet row l.column) (λ t. NegatedWhere l.negated (HasMatches l.seq t l.least))
    (λ t. negated_decided l.negated (HasMatches l.seq t l.least) (matches_decided l.seq t l.least))

guard_decided : (sheet : SheetData) (row : ℕ) (g : Guard) → Decided (GuardHolds sheet row g)
guard_decided sheet row g =
    both_decided _ _ (literal_decided sheet row g.first) (if_some_decided g.second (LiteralHolds sheet row) (literal_decided sheet row))

-- the items before the first one that has the property, that one, and those after it
abbrev SplitsAtFirst : {A : Type 0} → (A → Type 0) → List A → Type 0
SplitsAtFirst {A} P xs =
    (before : List A) × (c : A) × (after : List A) × (xs ≡ before ++ c ∷ after) × All (λ x. ¬ P x) before × P c

module _ {A : Type 0} (P : A → Type 0) where
  first_or_none : ((x : A) → Decided (P x)) → (xs : List A) → SplitsAtFirst P xs ⊎ All (λ x. ¬ P x) xs
  first_or_none decide [] = inr (λ k d l. omega arith)
  first_or_none decide (x ∷ xs) = elim (decide x) [
    | inl holds ↦ inl ([], x, xs, refl, (λ k d l. omega arith), holds)
    | inr fails ↦ elim (first_or_none decide xs) [
      | inl s ↦ inl (x ∷ s.0, s.1, s.2, ap (λ rest. x ∷ rest) s.3, All-cons (λ y. ¬ P y) x s.0 fails s.4, s.5)
      | inr none ↦ inr (All-cons (λ y. ¬ P y) x xs fails none)
    ]
  ]

  none_is_first : (xs after : List A) (c : A) → All (λ x. ¬ P x) (xs ++ c ∷ after) → P c → ⊥
  none_is_first [] after c none holds = All-head (λ x. ¬ P x) c after none holds
  none_is_first (x ∷ xs) after c none holds = none_is_first xs after c (All-tail (λ y. ¬ P y) x (xs ++ c ∷ after) none) holds

  one_is_first : (xs ys after rest : List A) (c d : A) → xs ++ c ∷ after ≡ ys ++ d ∷ rest →
      All (λ x. ¬ P x) xs → P c → All (λ x. ¬ P x) ys → P d → c ≡ d
  one_is_first [] [] after rest c d e none holds none' holds' = cc
  one_is_first [] (y ∷ ys) after rest c d e none holds none' holds' =
      let same : c ≡ y = cc in absurd (All-head (λ x. ¬ P x) y ys none' (subst P same holds))
  one_is_first (x ∷ xs) [] after rest c d e none holds none' holds' =
      let same : d ≡ x = cc in absurd (All-head (λ y. ¬ P y) x xs none (subst P same holds'))
  one_is_first (x ∷ xs) (y ∷ ys) after rest c d e none holds none' holds' =
      let tails : xs ++ c ∷ after ≡ ys ++ d ∷ rest = cc in
      one_is_first xs ys after rest c d tails (All-tail (λ z. ¬ P z) x xs none) holds (All-tail (λ z. ¬ P z) y ys none') holds'

-- the case's guard holds on the row
abbrev CaseHolds : SheetData → ℕ → CaseTree → Type 0
CaseHolds sheet row c = GuardHolds sheet row c.guard

pub some_taken : (sheet : SheetData) (row : ℕ) (s : SwitchTree) → (p : Atoms) × Takes sheet row s p
some_taken sheet row s = elim (first_or_none (CaseHolds sheet row) (λ c. guard_decided sheet row c.guard) s.cases) [
  | inl h ↦ (h.1.program, inl (h.0, h.1, h.2, h.3, h.4, h.5, refl))
  | inr none ↦ (s.last, inr (none, refl))
]

-- a case is not taken where no guard holds
not_both : (sheet : SheetData) (row : ℕ) (cases before after : List CaseTree) (c : CaseTree) → cases ≡ before ++ c ∷ after →
    GuardHolds sheet row c.guard → NoneHolds sheet row cases → ⊥
not_both sheet row cases before after c e holds none =
    none_is_first (CaseHolds sheet row) before after c (subst (NoneHolds sheet row) e none) holds

pub one_taken : (sheet : SheetData) (row : ℕ) (s : SwitchTree) (p q : Atoms) → Takes sheet row s p → Takes sheet row s q → p ≡ q
one_taken sheet row s p q (inl h) (inl k) =
    let same : h.1 ≡ k.1 = one_is_first (CaseHolds sheet row) h.0 k.0 h.2 k.2 h.1 k.1 (sym h.3 ∙ k.3) h.4 h.5 k.4 k.5 in
    h.6 ∙ ap (λ c. c.program) same ∙ sym k.6
one_taken sheet row s p q (inl h) (inr k) = absurd (not_both sheet row s.cases h.0 h.2 h.1 h.3 h.5 k.0)
one_taken sheet row s p q (inr h) (inl k) = absurd (not_both sheet row s.cases k.0 k.2 k.1 k.3 k.5 h.0)
one_taken sheet row s p q (inr h) (inr k) = h.1 ∙ sym k.1

pub switch_one : (sheet : SheetData) (tables : List TableData) → KeysDistinguish tables → (row : ℕ) (s : SwitchTree) →
    AtMostOne (SwitchIs sheet tables row s)
switch_one sheet tables distinguish row s v w h k =
    let same : k.0 ≡ h.0 = one_taken sheet row s k.0 h.0 k.1 h.1 in
    program_one sheet tables distinguish row h.0 v w h.2 (subst (λ p. ProgramIs sheet tables row p w) same k.2)
