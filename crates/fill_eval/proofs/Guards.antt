-- Guards on a row.
use Rattle.std.proofs.Common.{◌≡◌, ℕ, ◌+◌, ◌<◌, ◌≤◌, ◌↔◌, List, [], ◌∷◌, ◌++◌, length, take, drop, map, get_or, All, true, false, not, IsTrue, Option, Some, Result, Ok, Err, IfOk, leb, inl, inr, refl, sym, ap, subst, ◌∙◌, arith}
use mathlib.Core.Bool.{beq}
use Rattle.std.proofs.lemmas.List.{take_all, take_more, take-append-drop, drop_more, map-append}
use Rattle.std.proofs.lemmas.List.Elements.{All-push}
use Rattle.std.proofs.lemmas.Bool.Decides.{nat_tests}
use Rattle.fill_text.specs.Data.{SheetData, TableData, cell_at}
use Rattle.fill_tokens.specs.Span.{Begins}
use Rattle.fill_tokens.specs.Value.{IsCount}
use Rattle.fill_tokens.specs.declared.token.Token.{Token}
use Rattle.fill_tokens.proofs.CountLaws.{count_unique}
use Rattle.fill_tree.specs.Guard.{HasMatches, NegatedWhere, LiteralHolds, GuardHolds, NoneHolds, Takes, SwitchIs}
use Rattle.fill_tree.specs.Tree.{Atoms}
use Rattle.fill_tree.specs.Value.{IsValue, ProgramIs}
use Rattle.fill_tree.proofs.GuardLaws.{one_taken}
use Rattle.fill_eval.proofs.Values.{alike}
use Rattle.fill_tree.specs.Meaning.{program_tree}
use Rattle.fill_tree.specs.Switch.{CaseTree, SwitchTree, case_tree, switch_tree}
use Rattle.fill_tree.specs.declared.guard.Literal.{Literal}
use Rattle.fill_tree.specs.declared.guard.Case.{Case}
use Rattle.fill_tree.specs.declared.guard.Switch.{Switch}

same_cell : (sheet : SheetData) (row column : ℕ) (t u : List ℕ) → cell_at sheet row column ≡ Some t → cell_at sheet row column ≡ Some u → t ≡ u
same_cell sheet row column t u is other = let e : Some t ≡ Some u = sym is ∙ other in cc

-- the count is large enough exactly where there are enough matches
enough : (r : List Token) (t : List ℕ) (least count : ℕ) → IsCount (Begins r t) (length t + 1) count → leb least count ≡ true → HasMatches r t least
enough r t least count is le = (count, is, grind (arith, nat_tests))

too_few : (r : List Token) (t : List ℕ) (least count : ℕ) → IsCount (Begins r t) (length t + 1) count → leb least count ≡ false → ¬ (HasMatches r t least)
too_few r t least count is gt h =
    let same : h.0 ≡ count = count_unique (Begins r t) (length t + 1) h.0 count h.1 is in
    let le = h.2 in
    let more : count < least = grind (arith, nat_tests) in
    omega arith

pub literal_by_count : (sheet : SheetData) (row : ℕ) (l : Literal) (t : List ℕ) (count : ℕ) → cell_at sheet row l.column ≡ Some t → IsCount (Begins l.seq t) (length t + 1) count
    → IsTrue (not (beq (leb l.least count) l.negated)) ↔ LiteralHolds sheet row l
literal_by_count sheet row l t count is counted =
    let r = l.seq in
    let k = l.least in
    elim (leb k count) as (λ b. leb k count ≡ b → IsTrue (not (beq b l.negated)) ↔ LiteralHolds sheet row l) [
      | true ↦ λ le.
          let has = enough r t k count counted le in
          elim l.negated as (λ m. IsTrue (not (beq true m)) ↔ ((u : List ℕ) × (cell_at sheet row l.column ≡ Some u) × NegatedWhere m (HasMatches r u k))) [
            | true ↦ ((λ h. cc), (λ h. absurd (h.2 (subst (λ u. HasMatches r u k) (same_cell sheet row l.column t h.0 is h.1) has))))
            | false ↦ ((λ h. (t, is, has)), (λ h. refl))
          ]
      | false ↦ λ gt.
          let few = too_few r t k count counted gt in
          elim l.negated as (λ m. IsTrue (not (beq false m)) ↔ ((u : List ℕ) × (cell_at sheet row l.column ≡ Some u) × NegatedWhere m (HasMatches r u k))) [
            | true ↦ ((λ h. (t, is, few)), (λ h. refl))
            | false ↦ ((λ h. cc), (λ h. absurd (few (subst (λ u. HasMatches r u k) (sym (same_cell sheet row l.column t h.0 is h.1)) h.2))))
          ]
    ] refl

-- what all cases before a place have, and the one at the place
pub all_more : (P : Case → Type 0) (cases : List Case) (i : ℕ) (c : Case) → i < length cases → c ≡ get_or cases i c → All P (take i cases) → P c → All P (take (i + 1) cases)
all_more P cases i c lt is before here =
    let last : take (i + 1) cases ≡ take i cases ++ c ∷ [] = rw is (take_more cases i c lt) in
    rw last (All-push P (take i cases) c before here)

-- cases of which none holds, and one more that does not
pub none_more : (sheet : SheetData) (row : ℕ) (cases : List Case) (i : ℕ) (c : Case) → i < length cases → c ≡ get_or cases i c → NoneHolds sheet row (map case_tree (take i cases))
    → ¬ (GuardHolds sheet row c.guard) → NoneHolds sheet row (map case_tree (take (i + 1) cases))
none_more sheet row cases i c lt is none fails =
    let last : take (i + 1) cases ≡ take i cases ++ c ∷ [] = rw is (take_more cases i c lt) in
    let both : map case_tree (take (i + 1) cases) ≡ map case_tree (take i cases) ++ case_tree c ∷ [] = rw last (map-append case_tree (take i cases) (c ∷ [])) in
    rw both (All-push (λ (d : CaseTree). ¬ (GuardHolds sheet row d.guard)) (map case_tree (take i cases)) (case_tree c) none fails)

-- the first case whose guard holds
pub takes_case : (sheet : SheetData) (row : ℕ) (s : Switch) (i : ℕ) (c : Case) → i < length s.cases → c ≡ get_or s.cases i c → NoneHolds sheet row (map case_tree (take i s.cases))
    → GuardHolds sheet row c.guard → Takes sheet row (switch_tree s) (program_tree c.program)
takes_case sheet row s i c lt is none holds =
    let next : drop i s.cases ≡ c ∷ drop (i + 1) s.cases = rw (← is) at (drop_more s.cases i c lt) in
    let parts : take i s.cases ++ c ∷ drop (i + 1) s.cases ≡ s.cases = rw next at (take-append-drop i s.cases) in
    let whole : map case_tree s.cases ≡ map case_tree (take i s.cases) ++ case_tree c ∷ map case_tree (drop (i + 1) s.cases) =
    ap (map case_tree) (sym parts) ∙ map-append case_tree (take i s.cases) (c ∷ drop (i + 1) s.cases) in
    inl (map case_tree (take i s.cases), case_tree c, map case_tree (drop (i + 1) s.cases), whole, none, holds, refl)

-- the last program
pub takes_last : (sheet : SheetData) (row : ℕ) (s : Switch) (i : ℕ) → length s.cases ≤ i → NoneHolds sheet row (map case_tree (take i s.cases)) → Takes sheet row (switch_tree s) (program_tree s.last)
takes_last sheet row s i past none = inr (rw (take_all i s.cases past) at none, refl)

-- the value of the program that is taken is the switch's
pub switch_of : (sheet : SheetData) (tables : List TableData) (row : ℕ) (s : SwitchTree) (p : Atoms) (r : Option (List ℕ)) → Takes sheet row s p → IsValue (ProgramIs sheet tables row p) r
    → IsValue (SwitchIs sheet tables row s) r
switch_of sheet tables row s p r takes = alike (ProgramIs sheet tables row p) (SwitchIs sheet tables row s) r (λ v. (
  (λ h. (p, takes, h)),
  (λ h. subst (λ q. ProgramIs sheet tables row q v) (one_taken sheet row s h.0 p h.1 takes) h.2),
))

pub switch_ok : {E : Type 0} (sheet : SheetData) (tables : List TableData) (row : ℕ) (s : SwitchTree) (p : Atoms) (made : Result (Option (List ℕ)) E) → Takes sheet row s p
    → IfOk made (IsValue (ProgramIs sheet tables row p)) → IfOk made (IsValue (SwitchIs sheet tables row s))
switch_ok sheet tables row s p (Ok r) takes is = switch_of sheet tables row s p r takes is
switch_ok sheet tables row s p (Err e) takes is = is
