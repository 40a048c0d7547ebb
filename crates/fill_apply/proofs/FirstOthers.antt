-- The first column of guards that is no input.
use Rattle.std.proofs.Common.{◌≡◌, ℕ, ◌+◌, ◌<◌, ◌≤◌, List, [], ◌∷◌, ◌++◌, length, take, drop, map, get_or, All, Contains, Option, None, Some, IfSome, sym, ap, subst, ◌∙◌, append_assoc}
use Rattle.std.proofs.lemmas.List.{drop_more, map-append, take-append-drop, take_all, take_more}
use Rattle.std.proofs.lemmas.List.Concat.{flat_map-append}
use Rattle.std.proofs.lemmas.List.Elements.{All-nil, All-cons, All-head, All-tail, All-append}
use Rattle.fill_text.specs.Data.{SheetData}
use Rattle.fill_tree.specs.Guard.{ReadsInputs}
use Rattle.fill_tree.specs.Switch.{CaseTree, case_tree}
use Rattle.fill_tree.specs.declared.guard.Literal.{Literal}
use Rattle.fill_tree.specs.declared.guard.Guard.{Guard}
use Rattle.fill_tree.specs.declared.guard.Case.{Case}
use Rattle.fill_apply.specs.Columns.{literal_columns, guard_columns, IsFirstOther}
use Rattle.fill_apply.specs.Saved.{columns_read}

-- the columns of a guard of two literals
pub two_columns : (g : Guard) (l : Literal) → g.second ≡ Some l → guard_columns g ≡ g.first.column ∷ l.column ∷ []
two_columns g l is = ap (λ (o : Option Literal). g.first.column ∷ literal_columns o) is

pub one_column : (g : Guard) → g.second ≡ None → guard_columns g ≡ g.first.column ∷ []
one_column g is = ap (λ (o : Option Literal). g.first.column ∷ literal_columns o) is

module _ (inputs : List ℕ) where
  abbrev AreIn : List ℕ → Type 0
  AreIn columns = All (Contains inputs) columns

  pub one_in : (c : ℕ) → Contains inputs c → AreIn (c ∷ [])
  one_in c h = All-cons (Contains inputs) c [] h (All-nil (Contains inputs))

  pub two_in : (c d : ℕ) → Contains inputs c → Contains inputs d → AreIn (c ∷ d ∷ [])
  two_in c d h k = All-cons (Contains inputs) c (d ∷ []) h (one_in d k)

  module _ (cases : List Case) (i : ℕ) (c : Case) (lt : i < length cases) (is : c ≡ get_or cases i c) where
    abbrev front : List ℕ
    front = columns_read (map case_tree (take i cases))

    abbrev rest : List ℕ
    rest = columns_read (map case_tree (drop (i + 1) cases))

    parts : columns_read (map case_tree cases) ≡ front ++ (guard_columns c.guard ++ rest)
    parts =
        let next : drop i cases ≡ c ∷ drop (i + 1) cases = rw (← is) at (drop_more cases i c lt) in
        let whole : take i cases ++ c ∷ drop (i + 1) cases ≡ cases = rw next at (take-append-drop i cases) in
        ap (λ (l : List Case). columns_read (map case_tree l)) (sym whole)
        ∙ ap columns_read (map-append case_tree (take i cases) (c ∷ drop (i + 1) cases))
        ∙ flat_map-append (λ (t : CaseTree). guard_columns t.guard) (map case_tree (take i cases)) (map case_tree (c ∷ drop (i + 1) cases))

    -- the columns of one case more are inputs
    pub case_in : AreIn front → AreIn (guard_columns c.guard) → AreIn (columns_read (map case_tree (take (i + 1) cases)))
    case_in before here =
        let more : take (i + 1) cases ≡ take i cases ++ c ∷ [] = rw (← is) at (take_more cases i c lt) in
        let all : columns_read (map case_tree (take (i + 1) cases)) ≡ front ++ (guard_columns c.guard ++ []) =
        ap (λ (l : List Case). columns_read (map case_tree l)) more
        ∙ ap columns_read (map-append case_tree (take i cases) (c ∷ []))
        ∙ flat_map-append (λ (t : CaseTree). guard_columns t.guard) (map case_tree (take i cases)) (map case_tree (c ∷ [])) in
        subst AreIn (sym all) (All-append (Contains inputs) front (guard_columns c.guard ++ []) before (All-append (Contains inputs) (guard_columns c.guard) [] here (All-nil (Contains inputs))))

    -- the first that is none, after cases whose columns are inputs
    pub other_here : (k : ℕ) → AreIn front → IsFirstOther inputs (guard_columns c.guard) (Some k) → IsFirstOther inputs (columns_read (map case_tree cases)) (Some k)
    other_here k before h =
        let own : guard_columns c.guard ++ rest ≡ h.0 ++ k ∷ (h.1 ++ rest) = ap (λ l. l ++ rest) h.2 ∙ append_assoc h.0 (k ∷ h.1) rest in (
          front ++ h.0,
          h.1 ++ rest,
          parts ∙ ap (λ l. front ++ l) own ∙ sym (append_assoc front h.0 (k ∷ (h.1 ++ rest))),
          All-append (Contains inputs) front h.0 before h.3,
          h.4,
        )

  pub cases_in : (cases : List Case) (i : ℕ) → length cases ≤ i → AreIn (columns_read (map case_tree (take i cases))) → AreIn (columns_read (map case_tree cases))
  cases_in cases i past h = subst (λ (l : List Case). AreIn (columns_read (map case_tree l))) (take_all i cases past) h

  -- one column at most is the first that is no input
  split_one : (xs ys ls bs : List ℕ) (c d : ℕ) → xs ++ c ∷ ys ≡ ls ++ d ∷ bs → AreIn xs → ¬ (Contains inputs c) → AreIn ls → ¬ (Contains inputs d) → c ≡ d
  split_one [] ys [] bs c d e xin cout ain dout = cc
  split_one [] ys (a ∷ ls) bs c d e xin cout ain dout = let same : c ≡ a = cc in absurd (cout (subst (Contains inputs) (sym same) (All-head (Contains inputs) a ls ain)))
  split_one (x ∷ xs) ys [] bs c d e xin cout ain dout = let same : x ≡ d = cc in absurd (dout (subst (Contains inputs) same (All-head (Contains inputs) x xs xin)))
  split_one (x ∷ xs) ys (a ∷ ls) bs c d e xin cout ain dout =
      let later : xs ++ c ∷ ys ≡ ls ++ d ∷ bs = cc in
      split_one xs ys ls bs c d later (All-tail (Contains inputs) x xs xin) cout (All-tail (Contains inputs) a ls ain) dout

  drop_front : (xs ys : List ℕ) → AreIn (xs ++ ys) → AreIn ys
  drop_front [] ys h = h
  drop_front (x ∷ xs) ys h = drop_front xs ys (All-tail (Contains inputs) x (xs ++ ys) h)

  pub one_other : (columns : List ℕ) (c d : ℕ) → IsFirstOther inputs columns (Some c) → IsFirstOther inputs columns (Some d) → c ≡ d
  one_other columns c d h k = split_one h.0 h.1 k.0 k.1 c d (sym h.2 ∙ k.2) h.3 h.4 k.3 k.4

  pub none_other : (columns : List ℕ) (c : ℕ) → IsFirstOther inputs columns None → IsFirstOther inputs columns (Some c) → ⊥
  none_other columns c all h = h.4 (All-head (Contains inputs) c h.1 (drop_front h.0 (c ∷ h.1) (subst AreIn h.2 all)))

-- where all columns that are read are inputs, each guard reads inputs
guard_reads : (sheet : SheetData) (g : Guard) → All (Contains sheet.inputs) (guard_columns g) → ReadsInputs sheet g
guard_reads sheet g = elim g.second as (λ (o : Option Literal). All (Contains sheet.inputs) (g.first.column ∷ literal_columns o) → (Contains sheet.inputs g.first.column × IfSome o (λ l. Contains sheet.inputs l.column))) [
  | None ↦ (λ h. (All-head (Contains sheet.inputs) g.first.column [] h, tt))
  | Some l ↦ (λ h. (All-head (Contains sheet.inputs) g.first.column (l.column ∷ []) h, All-head (Contains sheet.inputs) l.column [] (All-tail (Contains sheet.inputs) g.first.column (l.column ∷ []) h)))
]

take_front : (inputs xs ys : List ℕ) → All (Contains inputs) (xs ++ ys) → All (Contains inputs) xs
take_front inputs [] ys h = All-nil (Contains inputs)
take_front inputs (x ∷ xs) ys h = All-cons (Contains inputs) x xs (All-head (Contains inputs) x (xs ++ ys) h) (take_front inputs xs ys (All-tail (Contains inputs) x (xs ++ ys) h))

pub cases_read : (sheet : SheetData) (cases : List Case) → All (Contains sheet.inputs) (columns_read (map case_tree cases)) → All (λ c. ReadsInputs sheet c.guard) cases
cases_read sheet [] h = All-nil (λ c. ReadsInputs sheet c.guard)
cases_read sheet (c ∷ cases) h =
    let own = guard_columns c.guard in
    let others = columns_read (map case_tree cases) in
    All-cons (λ c. ReadsInputs sheet c.guard) c cases (guard_reads sheet c.guard (take_front sheet.inputs own others h)) (cases_read sheet cases (drop_front sheet.inputs own others h))
