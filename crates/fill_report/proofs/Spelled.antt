-- Why the notation has the conditional program of branches.
use Rattle.std.proofs.Common.{◌≡◌, ℕ, zero, suc, ◌<◌, ◌≤◌, List, [], ◌∷◌, ◌++◌, length, All, Option, None, Some, IfSome, option_map, sym, ap, refl, subst, arith}
use Rattle.std.specs.Prelude.{Contains, option_and_then}
use Rattle.std.specs.declared.cmp.Ordering.TheVariants.{Less}
use Rattle.std.proofs.lemmas.List.Elements.{All-contains}
use Rattle.std.proofs.lemmas.Option.{same_Some, slice_get_within, get_or_from_slice_get}
use Rattle.fill_text.specs.Data.{TableData, key_at, nth}
use Rattle.fill_sheet.specs.Columns.{IsColumn}
use Rattle.fill_tables.specs.Keys.{IsKey}
use Rattle.fill_tables.specs.Tables.{AreTables, IsTable}
use Rattle.fill_tree.specs.Tree.{SourceTree, AtomTree, Atoms, col, select, constant, whole, sub, end, more}
use Rattle.fill_tree.specs.Grammar as grammar
use Rattle.fill_tree.specs.Grammar.{AreNumbersOf, AreSettings, InGrammar, number_of_atoms, source_depth}
use Rattle.fill_tree.specs.Separate as separate
use Rattle.fill_tree.specs.Switch.{SwitchTree}
use Rattle.fill_tree.specs.declared.guard.Guard.{Guard}
use Rattle.fill_tree.specs.declared.guard.Literal.{Literal}
use Rattle.fill_tree.specs.declared.user.Example.{Example}
use Rattle.fill_tree.specs.declared.user.Settings.{Settings}
use Rattle.fill_print.specs.Rules.{AreCases, AreConditions, IsAtom, IsCondition, IsGuard, IsLiteral, IsNumber, IsProgram, IsSource, IsSwitch}
use Rattle.fill_space.specs.declared.ground.Ground.{Ground}
use Rattle.fill_session.specs.Answers.{cases_of, switch_of, with_branch}
use Rattle.fill_session.specs.Branches.{AreBranches, AreGuarded, BranchData}
use Rattle.fill_report.specs.Laws.{IsKept}

-- the item of a number
nth_some : {A : Type 0} (xs : List A) (n : ℕ) (x : A) → nth xs n ≡ Some x → 1 ≤ n
nth_some {A} xs zero x h = let e : ◌≡◌ {A = Option A} None (Some x) = h in absurd (let f : ⊥ = cc in f)
nth_some xs (suc i) x h = omega arith

nth_has : {A : Type 0} (P : A → Type 0) (xs : List A) (n : ℕ) (x : A) → All P xs → nth xs n ≡ Some x → P x
nth_has {A} P xs zero x all h = let e : ◌≡◌ {A = Option A} None (Some x) = h in absurd (let f : ⊥ = cc in f)
nth_has P xs (suc i) x all h = subst P (get_or_from_slice_get xs i x x h) (all i x (slice_get_within xs i x h))

-- a key's table and number count from 1, and it has at most three columns
key_small : (tables : List TableData) (table key : ℕ) (columns : List ℕ) → AreTables tables → key_at tables table key ≡ Some columns → (1 ≤ table) × (1 ≤ key) × (length columns ≤ 3)
key_small tables table key columns are is =
    elim (nth tables table) as (λ found. nth tables table ≡ found → option_and_then (λ t. nth t.keys key) found ≡ Some columns → (1 ≤ table) × (1 ≤ key) × (length columns ≤ 3)) [
      | None ↦ λ _ none. absurd (let f : ⊥ = cc in f)
      | Some t ↦ λ there found.
          let proper : IsTable t = nth_has IsTable tables table t are.proper there in
          (nth_some tables table t there, nth_some t.keys key columns found, ((nth_has (IsKey t.width t.rows) t.keys key columns proper.keyed found).are).few)
    ] refl is

-- no settings allow a depth above 3
depth_small : (settings : Settings) → AreSettings settings → settings.depth ≤ 3
depth_small settings h =
    let deep = h.0 in
    let most = h.1 in
    omega arith

module _ (g : Ground) (kept : IsKept g) where
  input_number : (c : ℕ) → Contains g.sheet.inputs c → IsNumber c
  input_number c there =
      let column : IsColumn c = All-contains IsColumn g.sheet.inputs c (kept.sheet).columns there in
      let first : 1 ≤ c = column.first in
      let last : c ≤ 1000 = column.last in
      (first, (omega arith))

  mutual
    source_spelled : (x : SourceTree) → grammar.IsSource g.settings g.sheet g.tables x → IsSource g.settings.profile.tokens x
    source_spelled (col c) h = input_number c h.0
    source_spelled (select column table key conditions) h =
        let numbers : AreNumbersOf g.tables column table key (number_of_atoms conditions) = h.0 in
        let small = key_small g.tables table key numbers.0 kept.tables numbers.2 in
        let few : length numbers.0 ≤ 3 = small.2 in
        let sized : length numbers.0 ≡ number_of_atoms conditions = numbers.4 in
        ((numbers.5, numbers.8), (small.0, numbers.9), (small.1, numbers.10), (omega arith), h.1, conditions_spelled conditions h.2)

    condition_spelled : (a : AtomTree) → grammar.IsCondition g.settings g.sheet g.tables a → IsCondition g.settings.profile.tokens a
    condition_spelled (constant t) h = h
    condition_spelled (whole x) h = source_spelled x h
    condition_spelled (sub x p q) h = (source_spelled x h.0, h.1, h.2)

    conditions_spelled : (cs : Atoms) → grammar.AreConditions g.settings g.sheet g.tables cs → AreConditions g.settings.profile.tokens cs
    conditions_spelled end h = tt
    conditions_spelled (more a rest) h = (condition_spelled a h.0, conditions_spelled rest h.1)

  depth_spelled : (x : SourceTree) → source_depth x ≤ g.settings.depth → source_depth x ≤ 3
  depth_spelled x h = let all : g.settings.depth ≤ 3 = depth_small g.settings kept.settings in omega arith

  atom_spelled : (a : AtomTree) → grammar.IsAtom g.settings g.sheet g.tables a → IsAtom g.settings.profile.tokens a
  atom_spelled (constant t) h = (h.0, h.1)
  atom_spelled (whole x) h = (source_spelled x h.0, depth_spelled x h.1)
  atom_spelled (sub x p q) h = (source_spelled x h.0, depth_spelled x h.1, h.2, h.3)

  program_spelled : (p : Atoms) → InGrammar g.settings g.sheet g.tables p → IsProgram g.settings.profile.tokens p
  program_spelled end h = tt
  program_spelled (more a rest) h = (atom_spelled a h.0, program_spelled rest h.1)

  literal_spelled : (l : Literal) → separate.IsLiteral g.settings g.sheet l → IsLiteral g.settings.profile.tokens l
  literal_spelled l h =
      let tested : separate.IsTested g.settings.profile.tokens l.seq = h.tested in
      let some : 0 < length l.seq = tested.some in
      record {
        column = input_number l.column h.input;
        some = (omega arith);
        few = tested.few;
        start = tested.start;
        finish = tested.last;
        tokens = tested.tokens;
        least = h.some;
        most = h.few;
      }

  second_spelled : (first : Literal) (o : Option Literal)
      → IfSome o (λ l. separate.IsLiteral g.settings g.sheet l × (separate.literal_cmp first l ≡ Less)) → IfSome o (IsLiteral g.settings.profile.tokens)
  second_spelled first None h = tt
  second_spelled first (Some l) h = literal_spelled l h.0

  guard_spelled : (h : Guard) → separate.IsGuard g.settings g.sheet h → IsGuard g.settings.profile.tokens h
  guard_spelled h is = (literal_spelled h.first is.0, second_spelled h.first h.second is.1)

  -- one branch more, which has a guard
  branch_more : (b c : BranchData) (later : List BranchData) (t : SwitchTree) → AreGuarded g (b ∷ c ∷ later)
      → (length t.cases ≡ length later) × AreCases g.settings.profile.tokens t.cases × IsProgram g.settings.profile.tokens t.last
      → (length (with_branch b t).cases ≡ suc (length later)) × AreCases g.settings.profile.tokens (with_branch b t).cases × IsProgram g.settings.profile.tokens t.last
  branch_more b c later t h rest =
      let program : IsProgram g.settings.profile.tokens b.program = program_spelled b.program ((h.1).has).in_grammar in
      let guard : IsGuard g.settings.profile.tokens h.0.0 = guard_spelled h.0.0 ((h.0.2).separates).is in
      subst (λ (o : Option Guard). (length (cases_of o b.program ++ t.cases) ≡ suc (length later)) × AreCases g.settings.profile.tokens (cases_of o b.program ++ t.cases) × IsProgram g.settings.profile.tokens t.last)
      (sym h.0.1) (ap suc rest.0, ((guard, program), rest.1), rest.2)

  -- the conditional program of these branches
  branches_spelled : (b : BranchData) (later : List BranchData) (s : SwitchTree) → AreGuarded g (b ∷ later) → switch_of (b ∷ later) ≡ Some s
      → (length s.cases ≡ length later) × AreCases g.settings.profile.tokens s.cases × IsProgram g.settings.profile.tokens s.last
  branches_spelled b [] s h is =
      let same : (record { cases = []; last = b.program }) ≡ s = same_Some (record { cases = []; last = b.program }) s is in
      subst (λ (x : SwitchTree). (length x.cases ≡ 0) × AreCases g.settings.profile.tokens x.cases × IsProgram g.settings.profile.tokens x.last) same
      (refl, tt, program_spelled b.program ((h.1).has).in_grammar)
  branches_spelled b (c ∷ later) s h is =
      elim (switch_of (c ∷ later)) as (λ found. switch_of (c ∷ later) ≡ found → option_map (with_branch b) found ≡ Some s → (length s.cases ≡ suc (length later)) × AreCases g.settings.profile.tokens s.cases × IsProgram g.settings.profile.tokens s.last) [
        | None ↦ λ _ none. absurd (let f : ⊥ = cc in f)
        | Some t ↦ λ there found.
            subst (λ (x : SwitchTree). (length x.cases ≡ suc (length later)) × AreCases g.settings.profile.tokens x.cases × IsProgram g.settings.profile.tokens x.last) (same_Some (with_branch b t) s found)
            (branch_more b c later t h (branches_spelled c later t h.2 there))
      ] refl is

pub switch_spelled : (g : Ground) (examples : List Example) (branches : List BranchData) (s : SwitchTree) → IsKept g → AreBranches g examples branches → switch_of branches ≡ Some s → IsSwitch g.settings.profile.tokens s
switch_spelled g examples [] s kept are is = absurd (let f : ⊥ = cc in f)
switch_spelled g examples (b ∷ later) s kept are is =
    let found = branches_spelled g kept b later s are.guarded is in
    let count : length s.cases ≡ length later = found.0 in
    let few : suc (length later) ≤ 8 = are.few in
    ((omega arith), found.1, found.2)
