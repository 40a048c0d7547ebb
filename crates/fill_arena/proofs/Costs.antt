-- What stands in an arena costs little, by any prices of 16 bits: a text has at most 100 characters, a lookup three conditions, three lookups stand
-- inside each other at most, and a program has at most 100 atoms.
use Rattle.std.proofs.Common.{◌≡◌, ℕ, zero, suc, ◌+◌, ◌-◌, ◌*◌, ◌<◌, ◌≤◌, ◌^◌, ◌==◌, get_or, List, [], ◌∷◌, length, Bool, true, false, cond, Some, slice_get, pos, negsuc, ℤ, refl, ap, subst, arith, mul-le-mul_right}
use Rattle.std.specs.Int.{w32}
use Rattle.std.specs.Prelude.{FitsSigned}
use Rattle.std.proofs.lemmas.List.Sums.{sum_by-le}
use Rattle.fill_text.specs.Classes.{is_separator}
use Rattle.fill_tokens.specs.Kind.{kind_of}
use Rattle.fill_tokens.specs.Prices.{ArePrices, count_cost, fixed_cost, kind_cost, place_cost, run_cost, seq_cost, token_cost}
use Rattle.fill_tokens.specs.declared.kind.Kind.{Kind}
use Rattle.fill_tokens.specs.declared.kind.Kind.TheVariants.{AtStart, AtEnd, Run, Single}
use Rattle.fill_tokens.specs.declared.kind.RunClass.{RunClass}
use Rattle.fill_tokens.specs.declared.kind.RunClass.TheVariants as class
use Rattle.fill_tokens.specs.declared.prices.Prices.{Prices}
use Rattle.fill_tokens.specs.declared.token.Token.{Token}
use Rattle.fill_tokens.specs.declared.place.Place.{Place}
use Rattle.fill_tokens.specs.declared.place.Place.TheVariants.{CPos, Pos}
use Rattle.fill_tree.specs.Cost.{char_cost, text_cost, source_cost, atom_cost, condition_cost, conditions_cost, program_cost}
use Rattle.fill_tree.specs.Grammar.{source_depth, atom_depth, greatest_depth, number_of_atoms}
use Rattle.fill_tree.specs.Tree.{SourceTree, AtomTree, Atoms, col, select, constant, whole, sub, end, more}
use Rattle.fill_arena.specs.Contents.{EachIn}
use Rattle.fill_arena.specs.Stands.{AtomFits, AtomStands, ConditionFits, ConditionsFit, PlaceStands, ProgramStands, SomeSource, SourceFits, SourceStands, Walks}
use Rattle.fill_arena.specs.WellMade.{IsSized, IsWellMade, IsConditionItem, IsSourceItem, IsAtomItem, Path}
use Rattle.fill_arena.specs.declared.entry.AtomItem.{AtomItem}
use Rattle.fill_arena.specs.declared.entry.AtomItem.TheVariants as atom
use Rattle.fill_arena.specs.declared.entry.ConditionItem.{ConditionItem}
use Rattle.fill_arena.specs.declared.entry.Edge.{Edge}
use Rattle.fill_arena.specs.declared.entry.Entry.{Entry}
use Rattle.fill_arena.specs.declared.entry.Entry.TheVariants as kind
use Rattle.fill_arena.specs.declared.entry.SourceItem.{SourceItem}
use Rattle.fill_arena.specs.declared.entry.SourceItem.TheVariants.{Col, Select}

either : (b : Bool) (m n most : ℕ) → m ≤ most → n ≤ most → cond b m n ≤ most
either true m n most h k = h
either false m n most h k = k

module _ (prices : Prices) (small : ArePrices prices) where
  fixed_few : (k : ℤ) → fixed_cost prices k ≤ 65535
  fixed_few (pos n) = let end = small.text_end in let other = small.position in either (n == 0) prices.text_end prices.position 65535 (omega arith) (omega arith)
  fixed_few (negsuc n) = let end = small.text_end in let other = small.position in either (n == 0) prices.text_end prices.position 65535 (omega arith) (omega arith)

  run_few : (r : RunClass) → run_cost prices r ≤ 65535
  run_few class.Space = let few = small.sign in omega arith
  run_few class.NonSpace = let few = small.sign in omega arith
  run_few _ = let few = small.run in omega arith

  kind_few : (k : Kind) → kind_cost prices k ≤ 65535
  kind_few AtStart = let few = small.edge in omega arith
  kind_few AtEnd = let few = small.edge in omega arith
  kind_few (Run r) = run_few r
  kind_few (Single c) = let few = small.sign in omega arith

  seq_few : (r : List Token) → length r ≤ 3 → seq_cost prices r ≤ 196605
  seq_few r h = let few = sum_by-le (token_cost prices) 65535 r (λ k d lt. kind_few (kind_of (get_or r k d))) in omega arith

  -- the greatest number that is passed by, below 2^31
  count_few : (k : ℤ) → FitsSigned w32 k → count_cost prices k ≤ 140735340871680
  count_few (pos n) h =
      let lt = h.sfits in
      let few : prices.step ≤ 65535 = let own = small.step in omega arith in
      let steps = mul-le-mul_right (n - 1) few in
      omega arith
  count_few (negsuc n) h =
      let lt = h.sfits in
      let few : prices.step ≤ 65535 = let own = small.step in omega arith in
      let steps = mul-le-mul_right n few in
      let own = small.from_right in
      omega arith

  pub place_few : (p : Place) → IsSized p → place_cost prices p ≤ 140735341330425
  place_few (CPos k) h = let few = fixed_few k in omega arith
  place_few (Pos r s k) h =
      let count = count_few k h.0 in
      let left = seq_few r h.1 in
      let right = seq_few s h.2 in
      let own = small.cut in
      omega arith

  char_few : (c : ℕ) → char_cost prices c ≤ 65535
  char_few c = let first = small.separator in let second = small.character in either (is_separator c) prices.separator prices.character 65535 (omega arith) (omega arith)

  text_few : (t : List ℕ) → length t ≤ 100 → text_cost prices t ≤ 6619035
  text_few t h = let few = sum_by-le (char_cost prices) 65535 t (λ k d lt. char_few (get_or t k d)) in let own = small.constant in omega arith

-- the most that a source costs in which lookups stand this deep inside each other
abbrev pub most : ℕ → ℕ
most zero = 65535
most (suc d) = 3 * (most d + 281470682791920) + 65535

deeper : (d : ℕ) → 3 * (most d + 281470682791920) + 65535 ≡ most (suc d)
deeper d = refl

least_most : (d : ℕ) → 65535 ≤ most d
least_most zero = omega arith
least_most (suc d) = omega arith

module _ (prices : Prices) (small : ArePrices prices) (c : List Entry) (made : IsWellMade c) where
  pub place_in : (s : ℕ) (p : Place) → PlaceStands c s p → place_cost prices p ≤ 140735341330425
  place_in s p h = place_few prices small p ((made s (kind.Places h.0) h.1).sized h.2.0 p h.2.1)

  -- a source of a set, where the items' sources cost little
  source_in : (x : SourceTree) (most : ℕ) → ((n : ℕ) (i : SourceItem) → IsSourceItem c n i → SourceFits x c i → source_cost prices x ≤ most) → (s : ℕ) → SomeSource c s (SourceFits x c) → source_cost prices x ≤ most
  source_in x most few s h =
      let all = (made s (kind.Sources h.0) h.1).each in
      let there = h.2.1 in
      few s h.2.0 (all there.0 h.2.0 there.1) h.2.2

  whole_in : (x : SourceTree) (most : ℕ) → ((n : ℕ) (i : SourceItem) → IsSourceItem c n i → SourceFits x c i → source_cost prices x ≤ most) → (i : AtomItem) → AtomFits (whole x) c i → source_cost prices x ≤ most
  whole_in x most few (atom.Const t) h = absurd h
  whole_in x most few (atom.Whole b) h = source_in x most few b h
  whole_in x most few (atom.Sub b l r) h = absurd h

  sub_in : (x : SourceTree) (p q : Place) (most : ℕ) → ((n : ℕ) (i : SourceItem) → IsSourceItem c n i → SourceFits x c i → source_cost prices x ≤ most) → (i : AtomItem) → AtomFits (sub x p q) c i →
      (source_cost prices x ≤ most) × (place_cost prices p ≤ 140735341330425) × (place_cost prices q ≤ 140735341330425)
  sub_in x p q most few (atom.Const t) h = absurd h
  sub_in x p q most few (atom.Whole b) h = absurd h
  sub_in x p q most few (atom.Sub b l r) h = (source_in x most few b h.0, place_in l p h.1, place_in r q h.2)

  mutual
    pub source_few : (x : SourceTree) (d : ℕ) → source_depth x ≤ d → (n : ℕ) (i : SourceItem) → IsSourceItem c n i → SourceFits x c i → source_cost prices x ≤ most d
    source_few (col k) d deep n i is fits =
        let own = small.column in
        let least = least_most d in
        omega arith
    source_few (select column table key conditions) d deep n (Col m) is fits = absurd fits
    source_few (select column table key conditions) zero deep n (Select i) is fits = absurd (omega arith)
    source_few (select column table key conditions) (suc d) deep n (Select i) is fits =
        let each = conditions_few conditions d (omega arith) n i.conditions is.older fits.4 in
        let short = mul-le-mul_right (most d + 281470682791920) is.few in
        let own = small.lookup in
        omega arith

    pub conditions_few : (cs : Atoms) (d : ℕ) → greatest_depth cs ≤ d → (n : ℕ) (is : List ConditionItem) → EachIn (IsConditionItem c n) is → ConditionsFit cs c is → conditions_cost prices cs ≤ length is * (most d + 281470682791920)
    conditions_few end d deep n [] older fits = omega arith
    conditions_few end d deep n (i ∷ is) older fits = absurd fits
    conditions_few (more a rest) d deep n [] older fits = absurd fits
    conditions_few (more a rest) d deep n (i ∷ is) older fits =
        let first = condition_few a d (omega arith) i fits.0 in
        let others = conditions_few rest d (omega arith) n is (λ k x there. older (suc k) x there) fits.1 in
        omega arith

    condition_few : (a : AtomTree) (d : ℕ) → atom_depth a ≤ d → (i : ConditionItem) → ConditionFits a c i (AtomFits a c) → condition_cost prices a ≤ most d + 281470682791920
    condition_few (constant t) d deep i fits = let own = small.constant_condition in omega arith
    condition_few (whole x) d deep i fits =
        let few = whole_in x (most d) (λ n j is f. source_few x d deep n j is f) fits.2.2.0 fits.2.2.2 in
        let own = small.whole in
        let more = small.condition in
        omega arith
    condition_few (sub x p q) d deep i fits =
        let few = sub_in x p q (most d) (λ n j is f. source_few x d deep n j is f) fits.2.2.0 fits.2.2.2 in
        let first = few.0 in
        let second = few.1 in
        let third = few.2 in
        let own = small.piece in
        let more = small.condition in
        omega arith

  source_shallow : (x : SourceTree) (n : ℕ) (i : SourceItem) → IsSourceItem c n i → SourceFits x c i → source_depth x ≤ 3
  source_shallow (col k) n i is fits = omega arith
  source_shallow (select column table key conditions) n (Col m) is fits = absurd fits
  source_shallow (select column table key conditions) n (Select i) is fits = is.shallow (select column table key conditions) fits

  pub source_item_few : (x : SourceTree) (n : ℕ) (i : SourceItem) → IsSourceItem c n i → SourceFits x c i → source_cost prices x ≤ most 3
  source_item_few x n i is fits = source_few x 3 (source_shallow x n i is fits) n i is fits

  pub atom_item_few : (a : AtomTree) (n : ℕ) (i : AtomItem) → IsAtomItem c n i → AtomFits a c i → atom_cost prices a ≤ most 3 + 281470682726385
  atom_item_few (constant t) n (atom.Const u) is fits = let few = text_few prices small t (subst (λ v. length v ≤ 100) fits is) in omega arith
  atom_item_few (constant t) n (atom.Whole b) is fits = absurd fits
  atom_item_few (constant t) n (atom.Sub b l r) is fits = absurd fits
  atom_item_few (whole x) n i is fits = let few = whole_in x (most 3) (source_item_few x) i fits in let own = small.whole in omega arith
  atom_item_few (sub x p q) n i is fits =
      let few = sub_in x p q (most 3) (source_item_few x) i fits in
      let first = few.0 in
      let second = few.1 in
      let third = few.2 in
      let own = small.piece in
      omega arith

  pub atom_few : (s : ℕ) (a : AtomTree) → AtomStands c s a → atom_cost prices a ≤ most 3 + 281470682726385
  atom_few s a h =
      let all = (made s (kind.Atoms h.0) h.1).each in
      let there = h.2.1 in
      atom_item_few a s h.2.0 (all there.0 h.2.0 there.1) h.2.2

  -- conditions of any row of sets
  atom_shallow : (a : AtomTree) (i : ConditionItem) → ConditionFits a c i (AtomFits a c) → atom_depth a ≤ 3
  atom_shallow (constant t) i fits = omega arith
  atom_shallow (whole x) i fits = shallow fits.2.2.0 fits.2.2.2
    where
      shallow : (j : AtomItem) → AtomFits (whole x) c j → source_depth x ≤ 3
      shallow (atom.Const t) h = absurd h
      shallow (atom.Whole b) h = source_shallow x b h.2.0 ((made b (kind.Sources h.0) h.1).each h.2.1.0 h.2.0 h.2.1.1) h.2.2
      shallow (atom.Sub b l r) h = absurd h
  atom_shallow (sub x p q) i fits = shallow fits.2.2.0 fits.2.2.2
    where
      shallow : (j : AtomItem) → AtomFits (sub x p q) c j → source_depth x ≤ 3
      shallow (atom.Const t) h = absurd h
      shallow (atom.Whole b) h = absurd h
      shallow (atom.Sub b l r) h = source_shallow x b h.0.2.0 ((made b (kind.Sources h.0.0) h.0.1).each h.0.2.1.0 h.0.2.0 h.0.2.1.1) h.0.2.2

  row_shallow : (cs : Atoms) (is : List ConditionItem) → ConditionsFit cs c is → greatest_depth cs ≤ 3
  row_shallow end is fits = omega arith
  row_shallow (more a rest) [] fits = absurd fits
  row_shallow (more a rest) (i ∷ is) fits =
      let first = atom_shallow a i fits.0 in
      let others = row_shallow rest is fits.1 in
      omega arith

  pub row_few : (cs : Atoms) (n : ℕ) (is : List ConditionItem) → EachIn (IsConditionItem c n) is → length is ≤ 3 → ConditionsFit cs c is → conditions_cost prices cs ≤ 3 * (most 3 + 281470682791920)
  row_few cs n is older short fits =
      let few = conditions_few cs 3 (row_shallow cs is fits) n is older fits in
      let whole = mul-le-mul_right (most 3 + 281470682791920) short in
      omega arith

  -- a walk is a path of as many edges as it has atoms
  walk_path : (p : Atoms) (edges : List Edge) (last at : ℕ) → Walks p c edges last at → (path : List Edge) × Path edges at path last × (length path ≡ number_of_atoms p)
  walk_path end edges last at h = ([], h, refl)
  walk_path (more a rest) edges last at h =
      let path = walk_path rest edges last h.0.to h.2.2 in
      (h.0 ∷ path.0, (h.1, h.2.0, path.1), ap suc path.2)

  walk_few : (p : Atoms) (edges : List Edge) (last at : ℕ) → Walks p c edges last at → program_cost prices p ≤ number_of_atoms p * (most 3 + 281470682791920)
  walk_few end edges last at h = omega arith
  walk_few (more a rest) edges last at h =
      let first = atom_few h.0.atoms a h.2.1 in
      let others = walk_few rest edges last h.0.to h.2.2 in
      let own = small.atom in
      omega arith

  pub rest_few : (p : Atoms) (g nodes : ℕ) (edges : List Edge) (last at : ℕ) → slice_get c g ≡ Some (kind.Graph nodes edges) → Walks p c edges last at → program_cost prices p ≤ 100 * (most 3 + 281470682791920)
  rest_few p g nodes edges last at is h =
      let path = walk_path p edges last at h in
      let short : number_of_atoms p ≤ 100 = subst (λ n. n ≤ 100) path.2 ((made g (kind.Graph nodes edges) is).short at last path.0 path.1) in
      let whole = mul-le-mul_right (most 3 + 281470682791920) short in
      let few = walk_few p edges last at h in
      omega arith

  -- the bounds are below those of the machine's numbers
  pub source_item_present : (x : SourceTree) (n : ℕ) (i : SourceItem) → IsSourceItem c n i → SourceFits x c i → source_cost prices x < 2 ^ 64
  source_item_present x n i is fits = let few = source_item_few x n i is fits in omega arith

  pub atom_item_present : (a : AtomTree) (n : ℕ) (i : AtomItem) → IsAtomItem c n i → AtomFits a c i → atom_cost prices a < 2 ^ 64
  atom_item_present a n i is fits = let few = atom_item_few a n i is fits in omega arith

  pub source_present : (s : ℕ) (x : SourceTree) → SourceStands c s x → source_cost prices x < 2 ^ 64
  source_present s x h = let few = source_in x (most 3) (source_item_few x) s h in omega arith

  pub atom_present : (s : ℕ) (a : AtomTree) → AtomStands c s a → atom_cost prices a < 2 ^ 64
  atom_present s a h = let few = atom_few s a h in omega arith

  pub row_present : (n : ℕ) (is : List ConditionItem) (cs : Atoms) → EachIn (IsConditionItem c n) is → length is ≤ 3 → ConditionsFit cs c is → conditions_cost prices cs < 2 ^ 64
  row_present n is cs older short fits = let few = row_few cs n is older short fits in omega arith

  pub rest_present : (g nodes : ℕ) (edges : List Edge) (last at : ℕ) (p : Atoms) → slice_get c g ≡ Some (kind.Graph nodes edges) → Walks p c edges last at → program_cost prices p < 2 ^ 64
  rest_present g nodes edges last at p is h = let few = rest_few p g nodes edges last at is h in omega arith

  pub program_present : (g : ℕ) (p : Atoms) → ProgramStands c g p → program_cost prices p < 2 ^ 64
  program_present g p h = rest_present g h.0 h.1 (h.0 - 1) 0 p h.2 h.3
