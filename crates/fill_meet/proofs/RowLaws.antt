-- Rows, by what the entries of an index have in common with an item.
use Rattle.std.proofs.Common.{◌≡◌, ℕ, ◌+◌, ◌%◌, ◌<◌, ◌≤◌, inl, inr, List, length, Option, None, Some, slice_get, refl, sym, ap, ◌∙◌, subst, arith}
use Rattle.std.proofs.lemmas.Bool.{cases_eq, cases_lt}
use Rattle.std.proofs.lemmas.Option.{slice_get_within}
use Rattle.fill_arena.specs.Contents.{EachIn, Extends, IsAtomSet, SomeIn}
use Rattle.fill_arena.specs.declared.entry.AtomItem.{AtomItem}
use Rattle.fill_arena.specs.declared.entry.AtomItem.TheVariants.{Const, Whole, Sub}
use Rattle.fill_arena.specs.declared.entry.Entry.{Entry}
use Rattle.fill_arena.specs.declared.entry.Entry.TheVariants as kind
use Rattle.fill_meet.specs.Groups.{AreKeys, IsFirstFrom}
use Rattle.fill_meet.specs.Index.{AreItems, IsEntryOf, IsListed, constant_hash, piece_hash}
use Rattle.fill_meet.specs.Mates.{IsMated}
use Rattle.fill_meet.specs.Meet.{AreApart}
use Rattle.fill_meet.specs.Rows.{AreAlikeDone, AreDone, AreEndsDone, ArePiecesDone, IsCovered, IsEntryDone, IsRow, IsRowTold}
use Rattle.fill_meet.specs.Runs.{Grows, HasFrom}
use Rattle.fill_meet.specs.Sets.{AtomIn}
use Rattle.fill_meet.specs.declared.index.Index.{Index}
use Rattle.fill_meet.specs.declared.index.Item.{Item}
use Rattle.fill_meet.specs.declared.rows.Slot.{Slot}
use Rattle.fill_meet.specs.declared.runs.Run.{Run}
use Rattle.fill_meet.proofs.AtomPairs as atoms
use Rattle.fill_meet.proofs.Grown.{from_grown, has_or_not, in_grown, in_run}
use Rattle.fill_meet.proofs.IndexLaws.{listed_back, listed_once}
use Rattle.fill_meet.proofs.Lists.{AllBelow, all_end, same_value}
use Rattle.fill_meet.proofs.Trials.{atoms_unshared}

module _ (c : List Entry) (i : Index) (P Q : ℕ → ℕ → AtomItem → Type 0) (on : (n j : ℕ) (y : AtomItem) → P n j y → Q n j y) where
  pub entry_on : (hash e : ℕ) → IsEntryDone c i P hash e → IsEntryDone c i Q hash e
  entry_on hash e h = record { each = λ z y hz same listed. on z.set z.place y (h.each z y hz same listed) }

  pub alike_on : (hash : ℕ) → AreAlikeDone c i P hash → AreAlikeDone c i Q hash
  alike_on hash h = record { each = λ e. entry_on hash e (h.each e) }

  pub ends_on : (mates : List ℕ) (l from to : ℕ) → AreEndsDone c i P mates l from to → AreEndsDone c i Q mates l from to
  ends_on mates l from to h = record { each = λ k r le lt at. alike_on (piece_hash l r) (h.each k r le lt at) }

-- the same in a later arena
module _ (c d : List Entry) (o : Extends c d) (i : Index) (atom_sets : EachIn (IsAtomSet c) i.labels.sets.items) (P Q : ℕ → ℕ → AtomItem → Type 0) (on : (n j : ℕ) (y : AtomItem) → P n j y → Q n j y) where
  pub entry_stays : (hash e : ℕ) → IsEntryDone c i P hash e → IsEntryDone d i Q hash e
  entry_stays hash e h = record { each = λ z y hz same listed. on z.set z.place y (h.each z y hz same (listed_back c d o i.labels.sets.items atom_sets z.set z.place y listed)) }

  pub alike_stays : (hash : ℕ) → AreAlikeDone c i P hash → AreAlikeDone d i Q hash
  alike_stays hash h = record { each = λ e. entry_stays hash e (h.each e) }

  pub ends_stay : (mates : List ℕ) (l from to : ℕ) → AreEndsDone c i P mates l from to → AreEndsDone d i Q mates l from to
  ends_stay mates l from to h = record { each = λ k r le lt at. alike_stays (piece_hash l r) (h.each k r le lt at) }

  pub pieces_stay : (mates : List ℕ) (begins ends : Run) → ArePiecesDone c i P mates begins ends → ArePiecesDone d i Q mates begins ends
  pieces_stay mates begins ends h = record { each = λ k l le lt at. ends_stay mates l ends.start ends.end (h.each k l le lt at) }

module _ (c : List Entry) (i : Index) where
  -- the entries before a place
  pub record EntriesBelow (P : ℕ → ℕ → AtomItem → Type 0) (hash e : ℕ) : Type 0 where
    pub each : (d : ℕ) → d < e → IsEntryDone c i P hash d

  pub entries_start : (P : ℕ → ℕ → AtomItem → Type 0) (hash : ℕ) → EntriesBelow P hash 0
  entries_start P hash = record { each = λ d lt. absurd (omega arith) }

  -- past entries of other hashes
  pub entries_past : (keys : List ℕ) (count : ℕ) → AreKeys (λ z. z.hash % count) i.items.items keys → (P : ℕ → ℕ → AtomItem → Type 0) (hash e f : ℕ) → IsFirstFrom keys (hash % count) e f → EntriesBelow P hash e → EntriesBelow P hash f
  entries_past keys count are P hash e f next below =
      record {
        each = λ d lt. elim (cases_lt d e) [
          | inl less ↦ below.each d less
          | inr past ↦ record {
            each = λ z y hz same listed.
                (let key : slice_get keys d ≡ Some (hash % count) = are.each d z hz ∙ ap (λ n. Some (n % count)) same in
                let least = next.least d past key in
                absurd (omega arith));
          }
        ];
      }

  pub entries_more : (P Q : ℕ → ℕ → AtomItem → Type 0) → ((n j : ℕ) (y : AtomItem) → P n j y → Q n j y) → (hash e : ℕ) → IsEntryDone c i Q hash e → EntriesBelow P hash e → EntriesBelow Q hash (e + 1)
  entries_more P Q on hash e this below =
      record {
        each = λ d lt. elim (cases_lt d e) [
          | inl less ↦ entry_on c i P Q on hash d (below.each d less)
          | inr past ↦ (let same : e ≡ d = omega arith in subst (IsEntryDone c i Q hash) same this)
        ];
      }

  pub entries_end : (P : ℕ → ℕ → AtomItem → Type 0) (hash e : ℕ) → length i.items.items ≤ e → EntriesBelow P hash e → AreAlikeDone c i P hash
  entries_end P hash e le below =
      record { each = λ d. record { each = λ z y hz same listed. (let w = slice_get_within i.items.items d z hz in (below.each d (omega arith)).each z y hz same listed) } }

  -- mates where pieces end, up to a place
  pub ends_start : (P : ℕ → ℕ → AtomItem → Type 0) (mates : List ℕ) (l from : ℕ) → AreEndsDone c i P mates l from from
  ends_start P mates l from = record { each = λ k r le lt. absurd (omega arith) }

  pub ends_more : (P Q : ℕ → ℕ → AtomItem → Type 0) → ((n j : ℕ) (y : AtomItem) → P n j y → Q n j y) → (mates : List ℕ) (l from k r : ℕ) → slice_get mates k ≡ Some r → AreAlikeDone c i Q (piece_hash l r) → AreEndsDone c i P mates l from k
      → AreEndsDone c i Q mates l from (k + 1)
  ends_more P Q on mates l from k r hr this before =
      record {
        each = λ m q le lt at. elim (cases_lt m k) [
          | inl less ↦ alike_on c i P Q on (piece_hash l q) (before.each m q le less at)
          | inr past ↦
              let same : r ≡ q = same_value mates k m r q (omega arith) hr at in
              subst (λ z. AreAlikeDone c i Q (piece_hash l z)) same this
        ];
      }

  -- mates where pieces begin, up to a place
  pub pieces_start : (P : ℕ → ℕ → AtomItem → Type 0) (mates : List ℕ) (from : ℕ) (ends : Run) → ArePiecesDone c i P mates (record { start = from; end = from }) ends
  pieces_start P mates from ends = record { each = λ k l le lt. absurd (omega arith) }

  pub pieces_more : (P Q : ℕ → ℕ → AtomItem → Type 0) → ((n j : ℕ) (y : AtomItem) → P n j y → Q n j y) → (mates : List ℕ) (from k l : ℕ) (ends : Run) → slice_get mates k ≡ Some l → AreEndsDone c i Q mates l ends.start ends.end
      → ArePiecesDone c i P mates (record { start = from; end = k }) ends → ArePiecesDone c i Q mates (record { start = from; end = k + 1 }) ends
  pieces_more P Q on mates from k l ends hl this before =
      record {
        each = λ m q le lt at. elim (cases_lt m k) [
          | inl less ↦ ends_on c i P Q on mates q ends.start ends.end (before.each m q le less at)
          | inr past ↦
              let same : l ≡ q = same_value mates k m l q (omega arith) hl at in
              subst (λ z. AreEndsDone c i Q mates z ends.start ends.end) same this
        ];
      }

-- the entries before a place, in a later arena
pub entries_stay : (c d : List Entry) → Extends c d → (i : Index) → EachIn (IsAtomSet c) i.labels.sets.items → (P Q : ℕ → ℕ → AtomItem → Type 0) → ((n j : ℕ) (y : AtomItem) → P n j y → Q n j y) → (hash e : ℕ) → EntriesBelow c i P hash e → EntriesBelow d i Q hash e
entries_stay c d o i atom_sets P Q on hash e below = record { each = λ k lt. entry_stays c d o i atom_sets P Q on hash k (below.each k lt) }

-- the list of numbers may grow
pub covered_on : (c : List Entry) (old new : List ℕ) (start : ℕ) (x : AtomItem) → Grows old new → (n j : ℕ) (y : AtomItem) → IsCovered c old start x n j y → IsCovered c new start x n j y
covered_on c old new start x grown n j y h = elim h [ inl has ↦ inl (from_grown old new start n grown has) | inr apart ↦ inr apart ]

-- all items, by those that are found by the hashes that x has; P holds of items that have nothing in common with x
module _ (c : List Entry) (i : Index) (items : AreItems c i.labels.sets.items i.places.sets.items i.items.items) (P : ℕ → ℕ → AtomItem → Type 0) where
  -- by the entry of the item
  by_entry : (hash n j : ℕ) (y : AtomItem) → IsListed c i.labels.sets.items n j y → AreAlikeDone c i P hash → (s : SomeIn (IsEntryOf i.places.sets.items n j y) i.items.items) → s.0.hash ≡ hash → P n j y
  by_entry hash n j y listed alike s same =
      let z = s.0 in
      let at : IsListed c i.labels.sets.items z.set z.place y = subst (λ m. IsListed c i.labels.sets.items m z.place y) (sym s.2.0) (subst (λ m. IsListed c i.labels.sets.items n m y) (sym s.2.1) listed) in
      subst (λ m. P m j y) s.2.0 (subst (λ m. P z.set m y) s.2.1 ((alike.each s.1.0).each z y s.1.1 same at))

  const_item : (u : List ℕ) → ((n j : ℕ) (y : AtomItem) → AreApart AtomIn c (Const u) y → P n j y) → AreAlikeDone c i P (constant_hash (length u)) → (n j : ℕ) (y : AtomItem) → IsListed c i.labels.sets.items n j y → P n j y
  const_item u out alike n j (Const v) listed = elim (cases_eq (length v) (length u)) [
    | inl same ↦
        let s = items.each n j (Const v) listed in
        by_entry (constant_hash (length u)) n j (Const v) listed alike s (s.2.2 ∙ ap constant_hash same)
    | inr other ↦ out n j (Const v) (atoms.const_apart c u v (λ e. other (ap length (sym e))))
  ]
  const_item u out alike n j (Whole b) listed = out n j (Whole b) (atoms.not_const c (Const u) (Whole b) u refl (λ v e. cc))
  const_item u out alike n j (Sub b p q) listed = out n j (Sub b p q) (atoms.not_const c (Const u) (Sub b p q) u refl (λ v e. cc))

  pub const_done : (u : List ℕ) → ((n j : ℕ) (y : AtomItem) → AreApart AtomIn c (Const u) y → P n j y) → AreAlikeDone c i P (constant_hash (length u)) → AreDone c i.labels.sets.items P
  const_done u out alike = record { each = const_item u out alike }

  whole_item : (b : ℕ) → ((n j : ℕ) (y : AtomItem) → AreApart AtomIn c (Whole b) y → P n j y) → AreAlikeDone c i P 0 → (n j : ℕ) (y : AtomItem) → IsListed c i.labels.sets.items n j y → P n j y
  whole_item b out alike n j (Const v) listed = out n j (Const v) (atoms.not_whole c (Whole b) (Const v) b refl (λ t e. cc))
  whole_item b out alike n j (Whole d) listed = let s = items.each n j (Whole d) listed in by_entry 0 n j (Whole d) listed alike s s.2.2
  whole_item b out alike n j (Sub d p q) listed = out n j (Sub d p q) (atoms.not_whole c (Whole b) (Sub d p q) b refl (λ t e. cc))

  pub whole_done : (b : ℕ) → ((n j : ℕ) (y : AtomItem) → AreApart AtomIn c (Whole b) y → P n j y) → AreAlikeDone c i P 0 → AreDone c i.labels.sets.items P
  whole_done b out alike = record { each = whole_item b out alike }

  module _ (b p q : ℕ) (mates : List ℕ) (begins ends : Run) (lefts : IsMated c i.places.sets.items mates (record { set = p; run = begins })) (rights : IsMated c i.places.sets.items mates (record { set = q; run = ends }))
      (out : (n j : ℕ) (y : AtomItem) → AreApart AtomIn c (Sub b p q) y → P n j y) (pieces : ArePiecesDone c i P mates begins ends) where
    sub_item : (n j : ℕ) (y : AtomItem) → IsListed c i.labels.sets.items n j y → P n j y
    sub_item n j (Const v) listed = out n j (Const v) (atoms.not_sub c (Sub b p q) (Const v) b p q refl (λ t u w e. cc))
    sub_item n j (Whole d) listed = out n j (Whole d) (atoms.not_sub c (Sub b p q) (Whole d) b p q refl (λ t u w e. cc))
    sub_item n j (Sub d u v) listed =
        let s = items.each n j (Sub d u v) listed in
        let l = s.2.2.0 in
        let r = s.2.2.1 in
        elim (lefts.each l u s.2.2.2) [
          | inr apart ↦ out n j (Sub d u v) (atoms.sub_apart_left c b d p q u v apart)
          | inl left ↦ elim (rights.each r v s.2.2.3) [
            | inr apart ↦ out n j (Sub d u v) (atoms.sub_apart_right c b d p q u v apart)
            | inl right ↦
                let alike = (pieces.each left.place l left.past left.before left.here).each right.place r right.past right.before right.here in
                by_entry (piece_hash l r) n j (Sub d u v) listed alike s s.2.2.4
          ]
        ]

    pub sub_done : AreDone c i.labels.sets.items P
    sub_done = record { each = sub_item }

module _ (c : List Entry) (labels : List ℕ) (start : ℕ) where
  pub done_stays : (old new : List ℕ) (x : AtomItem) → Grows old new → AreDone c labels (IsCovered c old start x) → AreDone c labels (IsCovered c new start x)
  done_stays old new x grown h = record { each = λ n j y listed. covered_on c old new start x grown n j y (h.each n j y listed) }

  -- the row of a set whose items are all covered
  pub row_made : (numbers : List ℕ) (s k : ℕ) (xs : List AtomItem) (run : Run) → slice_get c s ≡ Some (kind.Atoms xs) → run.start ≡ start → start ≤ length numbers → run.end ≡ length numbers → EachIn (IsAtomSet c) labels → length xs ≤ k → AllBelow (λ x. AreDone c labels (IsCovered c numbers start x)) xs k
      → IsRow c labels numbers s run
  row_made numbers s k xs run hs begin low end sets le all =
      record {
        order = omega arith;
        within = omega arith;
        each = λ n t ht. elim (has_or_not numbers start n) [
          | inl has ↦ inl (in_run numbers run start n begin end has)
          | inr none ↦
              let set = sets n t ht in
              inr (atoms_unshared c s t xs set.0 hs set.1 (λ a x hx. λ b y hy. elim ((all_end (λ x. AreDone c labels (IsCovered c numbers start x)) xs k le all a x hx).each n b y (t, set.0, ht, set.1, hy)) [
                | inl has ↦ absurd (none has)
                | inr apart ↦ apart
              ]))
        ];
      }

  pub row_grown : (old new : List ℕ) (s : ℕ) (run : Run) → Grows old new → IsRow c labels old s run → IsRow c labels new s run
  row_grown old new s run grown row =
      record {
        order = row.order;
        within = (let a = row.within in let b = grown.long in omega arith);
        each = λ n t ht. elim (row.each n t ht) [ inl has ↦ inl (in_grown old new run n grown has) | inr apart ↦ inr apart ];
      }

-- what a slot tells holds of a longer list too
pub told_grown : (c : List Entry) (labels old new : List ℕ) → Grows old new → (r : Option Slot) → IsRowTold c labels old r → IsRowTold c labels new r
told_grown c labels old new grown None h = h
told_grown c labels old new grown (Some slot) h = row_grown c labels 0 old new slot.set slot.row grown h

-- one entry
module _ (c : List Entry) (i : Index) (hash e : ℕ) (z : Item) (hz : slice_get i.items.items e ≡ Some z) where
  pub entry_other : (P : ℕ → ℕ → AtomItem → Type 0) → (z.hash ≡ hash → ⊥) → IsEntryDone c i P hash e
  entry_other P other = record { each = λ u y hu same listed. (let is : z ≡ u = same_value i.items.items e e z u refl hz hu in absurd (other (ap (λ v. v.hash) is ∙ same))) }

  pub entry_has : (numbers : List ℕ) (start : ℕ) (x : AtomItem) → HasFrom numbers start z.set → IsEntryDone c i (IsCovered c numbers start x) hash e
  entry_has numbers start x has =
      record { each = λ u y hu same listed. (let is : z ≡ u = same_value i.items.items e e z u refl hz hu in inl (subst (λ v. HasFrom numbers start v.set) is has)) }

  pub entry_apart : (numbers : List ℕ) (start : ℕ) (x y : AtomItem) → IsListed c i.labels.sets.items z.set z.place y → AreApart AtomIn c x y → IsEntryDone c i (IsCovered c numbers start x) hash e
  entry_apart numbers start x y at apart =
      record {
        each = λ u v hu same listed.
            (let is : z ≡ u = same_value i.items.items e e z u refl hz hu in
            let one = listed_once c i.labels.sets.items z.set z.place y v at (subst (λ w. IsListed c i.labels.sets.items w.set w.place v) (sym is) listed) in
            inr (subst (AreApart AtomIn c x) one apart));
      }
