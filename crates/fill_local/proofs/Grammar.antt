-- The grammar and the guards over sheets with the same inputs.
use Rattle.std.proofs.Common.{◌≡◌, List, ◌<◌, ◌≤◌, ◌^◌, Contains, IfSome, Less, None, Option, Some, refl}
use Rattle.fill_text.specs.Data.{SheetData, TableData}
use Rattle.fill_tokens.specs.TokenSet.{IsPlaceOf}
use Rattle.fill_tree.specs.Grammar.{AreConditions, AreNumbersOf, HasPart, InGrammar, IsAtom, IsCondition, IsSource, number_of_atoms, source_depth}
use Rattle.fill_tree.specs.Separate.{IsGuard, IsLiteral, literal_cmp}
use Rattle.fill_tree.specs.Tree.{SourceTree, AtomTree, Atoms, col, select, constant, whole, sub, end, more}
use Rattle.fill_tree.specs.declared.guard.Guard.{Guard}
use Rattle.fill_tree.specs.declared.guard.Literal.{Literal}
use Rattle.fill_tree.specs.declared.user.Settings.{Settings}

module _ (m n : Settings) (s t : SheetData) (settings : m ≡ n) (inputs : s.inputs ≡ t.inputs) where
  module _ (us vs : List TableData) (tables : us ≡ vs) where
    mutual
      source_in : (x : SourceTree) → IsSource m s us x ≡ IsSource n t vs x
      source_in (col c) = λ i. Contains (inputs i) c × (c < 2 ^ 32)
      source_in (select column table key conditions) = λ i. AreNumbersOf (tables i) column table key (number_of_atoms conditions) × HasPart conditions × conditions_in conditions i

      condition_in : (x : AtomTree) → IsCondition m s us x ≡ IsCondition n t vs x
      condition_in (constant u) = refl
      condition_in (whole x) = source_in x
      condition_in (sub x p q) = λ i. source_in x i × IsPlaceOf (settings i).profile.tokens p × IsPlaceOf (settings i).profile.tokens q

      conditions_in : (p : Atoms) → AreConditions m s us p ≡ AreConditions n t vs p
      conditions_in end = refl
      conditions_in (more x rest) = λ i. condition_in x i × conditions_in rest i

    atom_in : (x : AtomTree) → IsAtom m s us x ≡ IsAtom n t vs x
    atom_in (constant u) = λ i. IsAtom (settings i) s us (constant u)
    atom_in (whole x) = λ i. source_in x i × (source_depth x ≤ (settings i).depth)
    atom_in (sub x p q) = λ i. source_in x i × (source_depth x ≤ (settings i).depth) × IsPlaceOf (settings i).profile.tokens p × IsPlaceOf (settings i).profile.tokens q

    pub program_in : (p : Atoms) → InGrammar m s us p ≡ InGrammar n t vs p
    program_in end = refl
    program_in (more x rest) = λ i. atom_in x i × program_in rest i

  literal_in : (l : Literal) → IsLiteral m s l → IsLiteral n t l
  literal_in l is = record {
    input = coe 0 1 (i. Contains (inputs i) l.column) is.input;
    tested = rw settings at is.tested;
    some = is.some;
    few = is.few;
  }

  second_in : (first : Literal) (o : Option Literal) → IfSome o (λ l. IsLiteral m s l × (literal_cmp first l ≡ Less)) → IfSome o (λ l. IsLiteral n t l × (literal_cmp first l ≡ Less))
  second_in first None second = tt
  second_in first (Some l) second = (literal_in l second.0, second.1)

  pub guard_in : (g : Guard) → IsGuard m s g → IsGuard n t g
  guard_in g is = (literal_in g.first is.0, second_in g.first g.second is.1)
