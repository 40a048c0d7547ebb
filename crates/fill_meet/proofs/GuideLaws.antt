-- What is made of two sets by the index of the second one.
use Rattle.std.proofs.Common.{◌≡◌, ℕ, ◌+◌, ◌<◌, inl, inr, List, [], ◌∷◌, ◌++◌, length, Option, None, Some, slice_get, refl, sym, ap, ◌∙◌, subst, arith}
use Rattle.std.specs.Prelude.{IfSome, MatchOption}
use Rattle.std.proofs.lemmas.Bool.{cases_lt}
use Rattle.fill_arena.specs.Contents.{EachIn, Extends, In, IsAtomSet, IsPlaceSet}
use Rattle.fill_arena.specs.Stands.{PlaceStands}
use Rattle.fill_arena.specs.WellMade.{IsAtomItem}
use Rattle.fill_arena.specs.declared.entry.AtomItem.{AtomItem}
use Rattle.fill_arena.specs.declared.entry.Edge.{Edge}
use Rattle.fill_arena.specs.declared.entry.Entry.{Entry}
use Rattle.fill_arena.specs.declared.entry.Entry.TheVariants as kind
use Rattle.fill_arena.proofs.Lists.{extends_on, get_pushed}
use Rattle.fill_meet.specs.Guides.{IsGuide, IsMadeTo, IsShared, IsSharedOf, IsTask}
use Rattle.fill_meet.specs.Index.{IsIndex, IsListed}
use Rattle.fill_meet.specs.Mates.{AreHolders, IsMated}
use Rattle.fill_meet.specs.Meet.{AreApart, AreMet}
use Rattle.fill_meet.specs.Rows.{AreDone, IsEntryDone}
use Rattle.fill_meet.specs.Runs.{Grows}
use Rattle.fill_meet.specs.Sets.{AtomIn, IsItem, ItemsAtMeet, PairsState}
use Rattle.fill_meet.specs.declared.holders.Holder.{Holder}
use Rattle.fill_meet.specs.declared.index.Index.{Index}
use Rattle.fill_meet.specs.declared.index.Item.{Item}
use Rattle.fill_meet.specs.declared.makes.Guide.{Guide}
use Rattle.fill_meet.specs.declared.makes.Task.{Task}
use Rattle.fill_meet.specs.declared.mates.Mated.{Mated}
use Rattle.fill_meet.proofs.Grown.{grows_pushed, grows_same, some_grown}
use Rattle.fill_meet.proofs.Grows.{apart_stay, atom_item_stays, atoms_stay, places_stay}
use Rattle.fill_meet.proofs.IndexLaws.{items_stay}
use Rattle.fill_meet.proofs.ItemPairs.{at_item, item_once, item_stays}
use Rattle.fill_meet.proofs.LabelLaws.{labels_sets}
use Rattle.fill_meet.proofs.Lists.{in_last, in_pushed, same_value, some_more}
use Rattle.fill_meet.proofs.States.{state_stays}

-- a list that has what two items share may grow, and the arena too
pub shared_on : (c d : List Entry) → Extends c d → (zs more : List AtomItem) → Grows zs more → (x y : AtomItem) → IsShared c zs x y → IsShared d more x y
shared_on c d o zs more grown x y h = λ e a q fx fy. some_grown (λ v. AtomIn e v a) zs more grown (h e a (extends_on c d e o q) fx fy)

pub shared_of_on : (c d : List Entry) → Extends c d → (k : Task) (zs more : List AtomItem) → Grows zs more → (n j : ℕ) (y : AtomItem) → IsSharedOf c k zs n j y → IsSharedOf d k more n j y
shared_of_on c d o k zs more grown n j y h = λ e. let s = h e in (s.0, item_stays c d o k.first k.place s.0 s.1, shared_on c d o zs more grown s.0 y s.2)

pub apart_shared : (c : List Entry) (zs : List AtomItem) (x y : AtomItem) → AreApart AtomIn c x y → IsShared c zs x y
apart_shared c zs x y apart = λ d a o fx fy. absurd (apart d o a fx fy)

-- what two items share, with nothing said of the rest of the second list
module _ (c : List Entry) (n : ℕ) (xs ys zs : List AtomItem) (i j : ℕ) (x y : AtomItem) (hx : slice_get xs i ≡ Some x) (hy : slice_get ys j ≡ Some y) (s : PairsState AtomIn IsAtomItem c n xs ys i 0 zs) where
  push_any : (z : AtomItem) → IsAtomItem c (length c) z → AreMet AtomIn c x y z → PairsState AtomIn IsAtomItem c n xs ys i 0 (zs ++ z ∷ [])
  push_any z old met =
      record {
        first = s.first;
        second = s.second;
        made = λ k v h. elim (get_pushed zs z k v h) [ inl p ↦ s.made k v p.1 | inr p ↦ subst (λ w. IsAtomItem c (length c) w) p.1 old ];
        pairs = record {
          back = λ d a v o h f. elim (in_pushed zs z v h) [
            | inl q ↦ s.pairs.back d a v o q f
            | inr q ↦ (let b = (met.both d o a).0 (subst (λ w. AtomIn d w a) (sym q) f) in ((x, (i, hx), b.0), (y, (j, hy), b.1)))
          ];
          some = λ d v o h. elim (in_pushed zs z v h) [
            | inl q ↦ s.pairs.some d v o q
            | inr q ↦ (let m = met.some d o in (m.0, subst (λ w. AtomIn d w m.0) q m.1))
          ];
          forth = λ d a k l u v o h gx gy fx fy. some_more (λ w. AtomIn d w a) zs z (s.pairs.forth d a k l u v o h gx gy fx fy);
        };
      }

  pub one_made : (more : List AtomItem) (made : Option AtomItem) → MatchOption made (AreApart AtomIn c x y) (λ z. IsAtomItem c (length c) z × AreMet AtomIn c x y z) → MatchOption made (more ≡ zs) (λ z. more ≡ zs ++ z ∷ [])
      → PairsState AtomIn IsAtomItem c n xs ys i 0 more × Grows zs more × IsShared c more x y
  one_made more None m e = (subst (PairsState AtomIn IsAtomItem c n xs ys i 0) (sym e) s, subst (Grows zs) (sym e) (grows_same zs), apart_shared c more x y m)
  one_made more (Some z) m e = (
    subst (PairsState AtomIn IsAtomItem c n xs ys i 0) (sym e) (push_any z m.0 m.1),
    subst (Grows zs) (sym e) (grows_pushed zs z),
    λ d a o fx fy. (z, subst (λ l. In z l) (sym e) (in_last zs z), (m.1.both d o a).1 (fx, fy)),
  )

-- an atom of the task's item and of item j of its second set is one of the list
abbrev pub IsSharedAt : List Entry → Task → List AtomItem → ℕ → Type 0
IsSharedAt c k zs j = (y : AtomItem) → IsItem c k.second j y → (x : AtomItem) × IsItem c k.first k.place x × IsShared c zs x y

-- one more pair, made in a later arena
pub one_step : (c d : List Entry) → Extends c d → (k : Task) (zs more : List AtomItem) (j : ℕ) (made : Option AtomItem) → IsMadeTo c k k.place zs → ItemsAtMeet d k.first k.place k.second j made → MatchOption made (more ≡ zs) (λ z. more ≡ zs ++ z ∷ [])
    → IsMadeTo d k k.place more × Grows zs more × IsSharedAt d k more j
one_step c d o k zs more j made p met put =
    let hs = o k.first (kind.Atoms p.xs) p.first in
    let ht = o k.second (kind.Atoms p.ys) p.second in
    let hx = at_item d k.first k.place met.0 p.xs hs met.2 in
    let hy = at_item d k.second j met.1 p.ys ht met.3 in
    let s = state_stays AtomIn IsAtomItem atom_item_stays c d k.first p.xs p.ys zs k.place 0 o p.state in
    let one = one_made d k.first p.xs p.ys zs k.place j met.0 met.1 hx hy s more made met.4 put in (
      record { xs = p.xs; ys = p.ys; first = hs; second = ht; state = one.0 },
      one.1,
      λ y at. (met.0, met.2, subst (λ w. IsShared d more met.0 w) (item_once d k.second j met.1 y met.3 at) one.2),
    )

-- what has nothing in common with the task's item
pub out_shared : (c : List Entry) (k : Task) (x : AtomItem) (zs : List AtomItem) → IsItem c k.first k.place x → (n j : ℕ) (y : AtomItem) → AreApart AtomIn c x y → IsSharedOf c k zs n j y
out_shared c k x zs hx n j y apart = λ e. (x, hx, apart_shared c zs x y apart)

module _ (c : List Entry) (k : Task) (task : IsTask c k) where
  -- after all items that may have something in common with the task's
  pub made_next : (zs : List AtomItem) → AreDone c k.guide.now.index.labels.sets.items (IsSharedOf c k zs) → IsMadeTo c k k.place zs → IsMadeTo c k (k.place + 1) zs
  made_next zs done made =
      record {
        xs = made.xs;
        ys = made.ys;
        first = made.first;
        second = made.second;
        state = record {
          first = made.state.first;
          second = made.state.second;
          made = made.state.made;
          pairs = record {
            back = made.state.pairs.back;
            some = made.state.pairs.some;
            forth = λ d a m l u v o h gx gy fx fy.
                (let before : m < k.place + 1 = elim h [ inl lt ↦ lt | inr e ↦ (let lt = e.1 in absurd (omega arith)) ] in
                elim (cases_lt m k.place) [
                  | inl less ↦ made.state.pairs.forth d a m l u v o (inl less) gx gy fx fy
                  | inr past ↦
                      let here : m ≡ k.place = omega arith in
                      let shared = done.each k.number l v (k.second, made.ys, task.number, made.second, gy) refl in
                      let same = item_once c k.first k.place u shared.0 (made.xs, made.first, subst (λ n. slice_get made.xs n ≡ Some u) here gx) shared.1 in
                      shared.2 d a o (subst (λ w. AtomIn d w a) same fx) fy
                ]);
          };
        };
      }

  -- the item of an entry of the task's second set
  pub task_item : (z : Item) (y : AtomItem) → z.set ≡ k.number → IsListed c k.guide.now.index.labels.sets.items z.set z.place y → IsItem c k.second z.place y
  task_item z y e listed =
      let set : listed.0 ≡ k.second = same_value k.guide.now.index.labels.sets.items z.set k.number listed.0 k.second e listed.2 task.number in
      (listed.1, subst (λ n. slice_get c n ≡ Some (kind.Atoms listed.1)) set listed.3, listed.4)

-- an entry of another set, and one whose item was made
module _ (c : List Entry) (k : Task) (hash e : ℕ) (z : Item) (hz : slice_get k.guide.now.index.items.items e ≡ Some z) where
  pub entry_of_other : (zs : List AtomItem) → (z.set ≡ k.number → ⊥) → IsEntryDone c k.guide.now.index (IsSharedOf c k zs) hash e
  entry_of_other zs other =
      record { each = λ u y hu same listed number. (let is : z ≡ u = same_value k.guide.now.index.items.items e e z u refl hz hu in absurd (other (ap (λ v. v.set) is ∙ number))) }

  pub entry_shared : IsTask c k → (zs : List AtomItem) → IsSharedAt c k zs z.place → IsEntryDone c k.guide.now.index (IsSharedOf c k zs) hash e
  entry_shared task zs shared =
      record {
        each = λ u v hu same listed number.
            (let is : z ≡ u = same_value k.guide.now.index.items.items e e z u refl hz hu in
            shared v (subst (λ i. IsItem c k.second i.place v) (sym is) (task_item c k task u v number listed)));
      }

-- a guide stays one as the arena grows
module _ (c d : List Entry) (o : Extends c d) where
  holders_stay : (sets : List ℕ) (list : List Holder) → EachIn (IsPlaceSet c) sets → AreHolders c sets list → AreHolders d sets list
  holders_stay sets list atom_sets are =
      record {
        each = λ n s p hn stands.
            (let set = atom_sets n s hn in
            let both : Some (kind.Places set.0) ≡ Some (kind.Places stands.0) = sym (o s (kind.Places set.0) set.1) ∙ stands.1 in
            let same : set.0 ≡ stands.0 = cc in
            are.each n s p hn (set.0, set.1, subst (In p) (sym same) stands.2));
      }

  pub index_stays : (edges : List Edge) (i : Index) → IsIndex c edges i → IsIndex d edges i
  index_stays edges i is =
      record {
        atom_sets = λ k e at. atoms_stay c d o e.atoms (is.atom_sets k e at);
        labels = is.labels;
        by_label = is.by_label;
        items = items_stay c d o i.labels.sets.items (labels_sets (IsAtomSet c) edges i.labels is.labels is.atom_sets) i.places.sets.items i.items.items is.items;
        some = is.some;
        groups = is.groups;
        sets = λ k s at. places_stay c d o s (is.sets k s at);
        held = record { holders = holders_stay i.places.sets.items i.holders.list.items is.sets is.held.holders; some = is.held.some; groups = is.held.groups };
      }

  pub mates_stay : (sets numbers : List ℕ) (mate_runs : List Mated) → EachIn (IsMated c sets numbers) mate_runs → EachIn (IsMated d sets numbers) mate_runs
  mates_stay sets numbers mate_runs all = λ k m at.
      let is = all k m at in
      record {
        order = is.order;
        within = is.within;
        each = λ n t ht. elim (is.each n t ht) [ inl has ↦ inl has | inr apart ↦ inr (apart_stay c d o PlaceStands m.set t apart) ];
      }

  pub guide_stays : (g : Guide) → IsGuide c g → IsGuide d g
  guide_stays g is =
      record {
        index = (is.index.0, index_stays is.index.0 g.index is.index.1);
        mates = mates_stay g.index.places.sets.items g.mates.lists.numbers.items g.mates.mate_runs.items is.mates;
      }

  pub task_stays : (k : Task) → IsTask c k → IsTask d k
  task_stays k is = record { guide = guide_stays k.guide.now is.guide; item = (is.item.0, item_stays c d o k.first k.place is.item.0 is.item.1); number = is.number }

-- so where there may be none
pub guides_stay : (c d : List Entry) → Extends c d → (g : Option Guide) → IfSome g (IsGuide c) → IfSome g (IsGuide d)
guides_stay c d o None h = h
guides_stay c d o (Some g) h = guide_stays c d o g h
