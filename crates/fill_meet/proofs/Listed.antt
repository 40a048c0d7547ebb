-- What two sets have in common, by what they list.
use Rattle.std.proofs.Common.{◌≡◌, ◌↔◌, ℕ, ◌≤◌, List, length, Some, slice_get, sym, ◌∙◌, subst, arith}
use Rattle.fill_tokens.specs.declared.place.Place.{Place}
use Rattle.fill_tree.specs.Tree.{SourceTree, AtomTree, col, select}
use Rattle.fill_tree.specs.Grammar.{source_depth}
use Rattle.fill_arena.specs.Contents.{In, SomeIn, EachIn, Extends}
use Rattle.fill_arena.specs.Stands.{PlaceStands, SourceStands, AtomStands}
use Rattle.fill_arena.specs.WellMade.{ArePlaces, AreSources, AreAtoms, IsSourceItem, IsAtomItem, IsWellMade}
use Rattle.fill_arena.specs.declared.entry.Entry.{Entry}
use Rattle.fill_arena.specs.declared.entry.Entry.TheVariants.{Places, Sources, Atoms}
use Rattle.fill_arena.specs.declared.entry.SourceItem.{SourceItem}
use Rattle.fill_arena.specs.declared.entry.SourceItem.TheVariants.{Col, Select}
use Rattle.fill_arena.specs.declared.entry.AtomItem.{AtomItem}
use Rattle.fill_arena.proofs.Lists.{extends_on, extends_same}
use Rattle.fill_meet.specs.Meet.{AreMet, AreApart}
use Rattle.fill_meet.specs.Sets.{AtomIn, SourceIn, NamesOlder, PairsState, AreAtomsMet, IsItemWithin}
use Rattle.fill_meet.proofs.Lists.{in_empty, some_first, is_empty, positive}
use Rattle.fill_meet.proofs.Pairs.{pairs_end}

-- for a kind of sets, by what a list of its items stands for
module _ {A I : Type 0} (L : List Entry → List I → A → Type 0) (kind : List I → Entry) (one : (xs ys : List I) → Some (kind xs) ≡ Some (kind ys) → xs ≡ ys) where
  abbrev Stands : List Entry → ℕ → A → Type 0
  Stands d n a = (items : List I) × (slice_get d n ≡ Some (kind items)) × L d items a

  stands_is : (d : List Entry) (n : ℕ) (a : A) (items : List I) → slice_get d n ≡ Some (kind items) → Stands d n a ↔ L d items a
  stands_is d n a items at = (λ h. subst (λ l. L d l a) (one h.0 items (sym h.1 ∙ at)) h.2, λ h. (items, at, h))

  set_met : (c : List Entry) (s t m : ℕ) (xs ys zs : List I) → slice_get c s ≡ Some (kind xs) → slice_get c t ≡ Some (kind ys) → slice_get c m ≡ Some (kind zs)
      → ((d : List Entry) → Extends c d → (a : A) → L d zs a ↔ (L d xs a × L d ys a)) → ((d : List Entry) → Extends c d → (a : A) × L d zs a) → AreMet Stands c s t m
  set_met c s t m xs ys zs hs ht hm both some =
      record {
        both = λ d o a.
            (let f = stands_is d m a zs (o m (kind zs) hm) in
            let g = stands_is d s a xs (o s (kind xs) hs) in
            let k = stands_is d t a ys (o t (kind ys) ht) in
            (λ h. let p = (both d o a).0 (f.0 h) in (g.1 p.0, k.1 p.1), λ h. f.1 ((both d o a).1 (g.0 h.0, k.0 h.1))));
        some = λ d o. (let r = some d o in (r.0, (zs, o m (kind zs) hm, r.1)));
      }

  pub set_apart : (c : List Entry) (s t : ℕ) (xs ys : List I) → slice_get c s ≡ Some (kind xs) → slice_get c t ≡ Some (kind ys)
      → ((d : List Entry) → Extends c d → (a : A) → L d xs a → L d ys a → ⊥) → AreApart Stands c s t
  set_apart c s t xs ys hs ht none = λ d o a p q.
      none d o a ((stands_is d s a xs (o s (kind xs) hs)).0 p) ((stands_is d t a ys (o t (kind ys) ht)).0 q)

pub one_places : (xs ys : List Place) → Some (Places xs) ≡ Some (Places ys) → xs ≡ ys
one_places xs ys e = cc

pub one_sources : (xs ys : List SourceItem) → Some (Sources xs) ≡ Some (Sources ys) → xs ≡ ys
one_sources xs ys e = cc

pub one_atoms : (xs ys : List AtomItem) → Some (Atoms xs) ≡ Some (Atoms ys) → xs ≡ ys
one_atoms xs ys e = cc

abbrev pub ListsPlace : List Entry → List Place → Place → Type 0
ListsPlace d places p = In p places

abbrev pub ListsSource : List Entry → List SourceItem → SourceTree → Type 0
ListsSource d items x = SomeIn (λ i. SourceIn d i x) items

abbrev pub ListsAtom : List Entry → List AtomItem → AtomTree → Type 0
ListsAtom d items a = SomeIn (λ i. AtomIn d i a) items

-- places, in the arena c; the set is new in d
module _ (c d : List Entry) (o : Extends c d) (s t : ℕ) (xs ys zs : List Place) (hs : slice_get c s ≡ Some (Places xs)) (ht : slice_get c t ≡ Some (Places ys)) (both : (p : Place) → In p zs ↔ (In p xs × In p ys)) where
  pub places_met : (m : ℕ) → slice_get d m ≡ Some (Places zs) → (length zs ≡ 0 → ⊥) → AreMet PlaceStands d s t m
  places_met m hm some =
      set_met ListsPlace Places one_places d s t m xs ys zs (o s (Places xs) hs) (o t (Places ys) ht) hm (λ e p. both) (λ e p. some_first zs some)

  pub places_apart : length zs ≡ 0 → AreApart PlaceStands c s t
  places_apart none =
      set_apart ListsPlace Places one_places c s t xs ys hs ht (λ e p a f g. in_empty a (subst (In a) (is_empty zs none) ((both a).1 (f, g))))

-- where each place of the first set is one of the second, the first set has what both have
pub places_within_met : (c : List Entry) (s t : ℕ) (xs ys : List Place) → slice_get c s ≡ Some (Places xs) → slice_get c t ≡ Some (Places ys) → ArePlaces xs → EachIn (λ p. In p ys) xs → AreMet PlaceStands c s t s
places_within_met c s t xs ys hs ht are all =
    places_met c c (extends_same c) s t xs ys xs hs ht (λ p. (λ h. (h, all h.0 p h.1), λ h. h.0)) s hs (λ e. let lt = are.some in absurd (omega arith))

-- sources: the loop began in c0 and ended in c; the set is new in d
module _ (c0 c : List Entry) (o : Extends c0 c) (n s t i : ℕ) (xs ys zs : List SourceItem) (hs : slice_get c0 s ≡ Some (Sources xs)) (ht : slice_get c0 t ≡ Some (Sources ys)) (long : length xs ≤ i) (p : PairsState SourceIn NamesOlder c n xs ys i 0 zs) where
  pub sources_met : (d : List Entry) (m : ℕ) → Extends c d → slice_get d m ≡ Some (Sources zs) → (length zs ≡ 0 → ⊥) → AreMet SourceStands d s t m
  sources_met d m q hm some =
      let z = some_first zs some in
      set_met ListsSource Sources one_sources d s t m xs ys zs (q s (Sources xs) (o s (Sources xs) hs)) (q t (Sources ys) (o t (Sources ys) ht)) hm
      (λ e r a. pairs_end SourceIn c xs ys zs i long p.pairs e (extends_on c d e q r) a)
      (λ e r. let f = p.pairs.some e z.0 (extends_on c d e q r) z.1 in (f.0, (z.0, z.1, f.1)))

  pub sources_apart : length zs ≡ 0 → AreApart SourceStands c s t
  sources_apart none =
      set_apart ListsSource Sources one_sources c s t xs ys (o s (Sources xs) hs) (o t (Sources ys) ht)
      (λ e r a f g. let h = (pairs_end SourceIn c xs ys zs i long p.pairs e r a).1 (f, g) in in_empty h.0 (subst (In h.0) (is_empty zs none) h.1))

  item_shallow : (m : ℕ) (z : SourceItem) → IsSourceItem c m z → (x : SourceTree) → SourceIn c z x → source_depth x ≤ 3
  item_shallow m (Col k) h (col j) f = omega arith
  item_shallow m (Col k) h (select column table key row) f = absurd f
  item_shallow m (Select k) h x f = h.shallow x f

  item_made : (m : ℕ) (z : SourceItem) → NamesOlder c m z → ((x : SourceTree) × SourceIn c z x) → ((x : SourceTree) → SourceIn c z x → source_depth x ≤ 3) → IsSourceItem c m z
  item_made m (Col k) h f g = tt
  item_made m (Select k) h f g = record { some = h.some; few = h.few; older = h.older; filled = f; shallow = g }

  pub are_sources : IsWellMade c → (length zs ≡ 0 → ⊥) → AreSources c (length c) zs
  are_sources made some =
      record {
        some = positive (length zs) some;
        each = λ k z h.
            item_made (length c) z (p.made k z h) (p.pairs.some c z (extends_same c) (k, h))
            (λ x f.
            let b = (p.pairs.back c x z (extends_same c) (k, h) f).0 in
            item_shallow s b.0 ((made s (Sources xs) (o s (Sources xs) hs)).each b.1.0 b.0 b.1.1) x b.2);
      }

-- atoms, in the same way
module _ (c0 c : List Entry) (o : Extends c0 c) (n s t i : ℕ) (xs ys zs : List AtomItem) (hs : slice_get c0 s ≡ Some (Atoms xs)) (ht : slice_get c0 t ≡ Some (Atoms ys)) (long : length xs ≤ i) (p : PairsState AtomIn IsAtomItem c n xs ys i 0 zs) where
  pub atoms_met : (d : List Entry) (m : ℕ) → Extends c d → slice_get d m ≡ Some (Atoms zs) → (length zs ≡ 0 → ⊥) → AreAtomsMet d s t m
  atoms_met d m q hm some =
      let z = some_first zs some in
      record {
        met = set_met ListsAtom Atoms one_atoms d s t m xs ys zs (q s (Atoms xs) (o s (Atoms xs) hs)) (q t (Atoms ys) (o t (Atoms ys) ht)) hm
            (λ e r a. pairs_end AtomIn c xs ys zs i long p.pairs e (extends_on c d e q r) a)
            (λ e r. let f = p.pairs.some e z.0 (extends_on c d e q r) z.1 in (f.0, (z.0, z.1, f.1)));
        each = λ e r items at k y h.
            (let same = one_atoms items zs (sym at ∙ r m (Atoms zs) hm) in
            p.pairs.some e y (extends_on c d e q r) (k, subst (λ l. slice_get l k ≡ Some y) same h));
      }

  pub atoms_apart : length zs ≡ 0 → AreApart AtomStands c s t
  atoms_apart none =
      set_apart ListsAtom Atoms one_atoms c s t xs ys (o s (Atoms xs) hs) (o t (Atoms ys) ht)
      (λ e r a f g. let h = (pairs_end AtomIn c xs ys zs i long p.pairs e r a).1 (f, g) in in_empty h.0 (subst (In h.0) (is_empty zs none) h.1))

  pub are_atoms : (length zs ≡ 0 → ⊥) → AreAtoms c (length c) zs
  are_atoms some = record { some = positive (length zs) some; each = p.made }

-- where each item of the first set is within one of the second, the first set has what both have
pub atoms_within_met : (c : List Entry) (s t : ℕ) (xs ys : List AtomItem) → slice_get c s ≡ Some (Atoms xs) → slice_get c t ≡ Some (Atoms ys) → AreAtomsMet c s s s
    → EachIn (λ x. SomeIn (IsItemWithin c x) ys) xs → AreAtomsMet c s t s
atoms_within_met c s t xs ys hs ht self all =
    record {
      met = set_met ListsAtom Atoms one_atoms c s t s xs ys xs hs ht hs
          (λ d o a. (λ h. (h, let y = all h.1.0 h.0 h.1.1 in (y.0, y.1, ((y.2.both d o a).0 h.2).1)), λ h. h.0))
          (λ d o. let f = self.met.some d o in (f.0, (stands_is ListsAtom Atoms one_atoms d s f.0 xs (o s (Atoms xs) hs)).0 f.1));
      each = self.each;
    }
