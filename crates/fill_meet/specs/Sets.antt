-- What two sets, or two of their items, have in common. A fact is told of every arena that extends the present one, so it
-- stays one as the arena grows.
use Rattle.std.specs.Prelude.{◌≡◌, ◌↔◌, ◌⊎◌, ℕ, ◌<◌, ◌≤◌, List, length, Option, Some, None, MatchOption, IfSome, slice_get}
use Rattle.fill_tree.specs.Tree.{SourceTree, AtomTree}
use Rattle.fill_tree.specs.Grammar.{IsPart}
use Rattle.fill_arena.specs.Contents.{In, SomeIn, EachIn, Extends}
use Rattle.fill_arena.specs.Stands.{PlaceStands, SourceStands, AtomStands, AtomFits, SourceFits, ConditionFits}
use Rattle.fill_arena.specs.WellMade.{OlderAtoms, IsConditionItem, IsAtomItem}
use Rattle.fill_arena.specs.declared.entry.Entry.{Entry}
use Rattle.fill_arena.specs.declared.entry.Entry.TheVariants as kind
use Rattle.fill_arena.specs.declared.entry.SourceItem.{SourceItem}
use Rattle.fill_arena.specs.declared.entry.SourceItem.TheVariants.{Col, Select}
use Rattle.fill_arena.specs.declared.entry.SelectItem.{SelectItem}
use Rattle.fill_arena.specs.declared.entry.AtomItem.{AtomItem}
use Rattle.fill_arena.specs.declared.entry.AtomItem.TheVariants.{Const, Whole, Sub}
use Rattle.fill_arena.specs.declared.entry.ConditionItem.{ConditionItem}
use Rattle.fill_meet.specs.Meet.{AreMet, AreApart}

-- what an item stands for
abbrev pub AtomIn : List Entry → AtomItem → AtomTree → Type 0
AtomIn c i a = AtomFits a c i

abbrev pub SourceIn : List Entry → SourceItem → SourceTree → Type 0
SourceIn c i x = SourceFits x c i

abbrev pub ConditionIn : List Entry → ConditionItem → AtomTree → Type 0
ConditionIn c i a = ConditionFits a c i (AtomFits a c)

-- one to three conditions of older sets
pub record AreConditions (c : List Entry) (n : ℕ) (conditions : List ConditionItem) : Type 0 where
  pub some : 1 ≤ length conditions
  pub few : length conditions ≤ 3
  pub older : EachIn (IsConditionItem c n) conditions

-- what the item names is older
abbrev pub NamesOlder : List Entry → ℕ → SourceItem → Type 0
NamesOlder c n (Col m) = Unit {0}
NamesOlder c n (Select i) = AreConditions c n i.conditions

-- a set of atoms, each of whose items stands for something
pub record AreAtomsMet (c : List Entry) (s t m : ℕ) : Type 0 where
  pub met : AreMet AtomStands c s t m
  pub each : (d : List Entry) → Extends c d → (items : List AtomItem) → slice_get d m ≡ Some (kind.Atoms items) → EachIn (λ z. (a : AtomTree) × AtomIn d z a) items

abbrev pub PlaceSetsMeet : List Entry → ℕ → ℕ → Option ℕ → Type 0
PlaceSetsMeet c s t made = MatchOption made (AreApart PlaceStands c s t) (AreMet PlaceStands c s t)

abbrev pub SourceSetsMeet : List Entry → ℕ → ℕ → Option ℕ → Type 0
SourceSetsMeet c s t made = MatchOption made (AreApart SourceStands c s t) (AreMet SourceStands c s t)

abbrev pub AtomSetsMeet : List Entry → ℕ → ℕ → Option ℕ → Type 0
AtomSetsMeet c s t made = MatchOption made (AreApart AtomStands c s t) (AreAtomsMet c s t)

abbrev pub AtomItemsMeet : List Entry → AtomItem → AtomItem → Option AtomItem → Type 0
AtomItemsMeet c x y made = MatchOption made (AreApart AtomIn c x y) (λ z. IsAtomItem c (length c) z × AreMet AtomIn c x y z)

-- item i of the set of atoms s
abbrev pub IsItem : List Entry → ℕ → ℕ → AtomItem → Type 0
IsItem c s i x = (items : List AtomItem) × (slice_get c s ≡ Some (kind.Atoms items)) × (slice_get items i ≡ Some x)

abbrev pub HasItem : List Entry → ℕ → ℕ → Type 0
HasItem c s i = (x : AtomItem) × IsItem c s i x

-- what item i of the set s and item j of the set t have in common
abbrev pub ItemsAtMeet : List Entry → ℕ → ℕ → ℕ → ℕ → Option AtomItem → Type 0
ItemsAtMeet c s i t j made = (x : AtomItem) × (y : AtomItem) × IsItem c s i x × IsItem c t j y × AtomItemsMeet c x y made

abbrev pub SourceItemsMeet : List Entry → SourceItem → SourceItem → Option SourceItem → Type 0
SourceItemsMeet c x y made = MatchOption made (AreApart SourceIn c x y) (λ z. NamesOlder c (length c) z × AreMet SourceIn c x y z)

abbrev pub SelectsMeet : List Entry → SelectItem → SelectItem → Option SelectItem → Type 0
SelectsMeet c x y made =
    MatchOption made (AreApart SourceIn c (Select x) (Select y)) (λ z. AreConditions c (length c) z.conditions × AreMet SourceIn c (Select x) (Select y) (Select z))

-- the same column, table and key
abbrev pub HaveSameNumbers : SelectItem → SelectItem → Type 0
HaveSameNumbers x y = (x.column ≡ y.column) × (x.table ≡ y.table) × (x.key ≡ y.key)

-- the constant of both conditions
abbrev pub IsCommonConstant : ConditionItem → ConditionItem → Option (List ℕ) → Type 0
IsCommonConstant x y z = (t : List ℕ) → (z ≡ Some t) ↔ ((x.constant ≡ Some t) × (y.constant ≡ Some t))

-- the atom that is no constant stands in the set, where there is one
abbrev pub PartStands : List Entry → Option ℕ → AtomTree → Type 0
PartStands c o a = (s : ℕ) × (o ≡ Some s) × AtomStands c s a

-- a set for the atoms of both that are no constants, none where there are none of them
pub record PartsMeet (c : List Entry) (x y z : Option ℕ) : Type 0 where
  pub older : IfSome z (OlderAtoms c (length c))
  pub both : (d : List Entry) → Extends c d → (a : AtomTree) → IsPart a → PartStands d z a ↔ (PartStands d x a × PartStands d y a)
  pub some : (d : List Entry) (s : ℕ) → Extends c d → z ≡ Some s → (a : AtomTree) × IsPart a × PartStands d z a

-- a condition for what stands in both; it may be for nothing, but a set that it names has an atom that is no constant
pub record ConditionsMeet (c : List Entry) (x y z : ConditionItem) : Type 0 where
  pub older : IsConditionItem c (length c) z
  pub both : (d : List Entry) → Extends c d → (a : AtomTree) → ConditionIn d z a ↔ (ConditionIn d x a × ConditionIn d y a)
  pub some : (d : List Entry) (s : ℕ) → Extends c d → z.atoms ≡ Some s → (a : AtomTree) × IsPart a × ConditionIn d z a

-- the conditions at each place that all three have
pub record RowsMeet (c : List Entry) (xs ys zs : List ConditionItem) : Type 0 where
  pub each : (k : ℕ) (x y z : ConditionItem) → slice_get xs k ≡ Some x → slice_get ys k ≡ Some y → slice_get zs k ≡ Some z → ConditionsMeet c x y z

-- each place of the first set stands in the second one, and some place does
abbrev pub IsWithin : List Entry → ℕ → ℕ → Type 0
IsWithin c s t = AreMet PlaceStands c s t s

-- the second item has all that the first one has
abbrev pub IsItemWithin : List Entry → AtomItem → AtomItem → Type 0
IsItemWithin c x y = AreMet AtomIn c x y x

-- an item that is no constant
abbrev pub IsPartItem : AtomItem → Type 0
IsPartItem (Const t) = ⊥
IsPartItem (Whole s) = Unit {0}
IsPartItem (Sub s p q) = Unit {0}

abbrev pub NamesAtoms : ConditionItem → Type 0
NamesAtoms i = (s : ℕ) × (i.atoms ≡ Some s)

-- the condition has a constant, or names a set
abbrev pub IsFilled : ConditionItem → Type 0
IsFilled i = (i.atoms ≡ None) → (t : List ℕ) × (i.constant ≡ Some t)

-- what is listed stands for what both lists' items stand for, in pairs up to the pair i, j
pub record PairsMeet {A I : Type 0} (Has : List Entry → I → A → Type 0) (c : List Entry) (xs ys : List I) (i j : ℕ) (zs : List I) : Type 0 where
  pub back : (d : List Entry) (a : A) (z : I) → Extends c d → In z zs → Has d z a → SomeIn (λ v. Has d v a) xs × SomeIn (λ v. Has d v a) ys
  pub some : (d : List Entry) (z : I) → Extends c d → In z zs → (a : A) × Has d z a
  pub forth : (d : List Entry) (a : A) (k l : ℕ) (x y : I) → Extends c d → (k < i) ⊎ ((k ≡ i) × (l < j)) → slice_get xs k ≡ Some x → slice_get ys l ≡ Some y
      → Has d x a → Has d y a → SomeIn (λ v. Has d v a) zs

-- the same, with what the items name: that of the first list older than n
pub record PairsState {A I : Type 0} (Has : List Entry → I → A → Type 0) (Old : List Entry → ℕ → I → Type 0) (c : List Entry) (n : ℕ) (xs ys : List I) (i j : ℕ) (zs : List I) : Type 0 where
  pub first : EachIn (Old c n) xs
  pub second : EachIn (λ y. (m : ℕ) × Old c m y) ys
  pub made : EachIn (Old c (length c)) zs
  pub pairs : PairsMeet Has c xs ys i j zs

-- so for the items of the sets of atoms s and t
pub record ArePaired (c : List Entry) (s t i j : ℕ) (zs : List AtomItem) : Type 0 where
  pub xs : List AtomItem
  pub ys : List AtomItem
  pub first : slice_get c s ≡ Some (kind.Atoms xs)
  pub second : slice_get c t ≡ Some (kind.Atoms ys)
  pub state : PairsState AtomIn IsAtomItem c s xs ys i j zs
