-- The entries of an index, set by set.
use Rattle.std.proofs.Common.{◌≡◌, ℕ, ◌+◌, ◌<◌, ◌≤◌, ◌⊎◌, inl, inr, List, [], ◌∷◌, ◌++◌, length, Some, slice_get, refl, sym, ◌∙◌, subst, arith}
use Rattle.std.proofs.lemmas.Bool.{cases_lt}
use Rattle.std.proofs.lemmas.Option.{slice_get_within}
use Rattle.fill_arena.specs.Contents.{EachIn, Extends, IsAtomSet, IsPlaceSet, SomeIn}
use Rattle.fill_arena.specs.declared.entry.AtomItem.{AtomItem}
use Rattle.fill_arena.specs.declared.entry.AtomItem.TheVariants.{Const, Whole, Sub}
use Rattle.fill_arena.specs.declared.entry.Entry.{Entry}
use Rattle.fill_arena.specs.declared.entry.Entry.TheVariants as kind
use Rattle.fill_arena.proofs.Lists.{get_pushed}
use Rattle.fill_meet.specs.Index.{AreItems, IsEntryOf, IsHash, IsListed, ItemsSoFar}
use Rattle.fill_meet.specs.Runs.{Grows}
use Rattle.fill_meet.specs.declared.index.Item.{Item}
use Rattle.fill_meet.proofs.Grown.{grows_pushed, some_grown}
use Rattle.fill_meet.proofs.Lists.{in_last, same_value}

pub hash_grown : (old new : List ℕ) (y : AtomItem) (h : ℕ) → Grows old new → IsHash old y h → IsHash new y h
hash_grown old new (Const t) h grown is = is
hash_grown old new (Whole b) h grown is = is
hash_grown old new (Sub b p q) h grown is = (is.0, is.1, grown.extends is.0 p is.2, grown.extends is.1 q is.3, is.4)

module _ (c : List Entry) (labels : List ℕ) where
  pub items_start : (items : List Item) (places : List ℕ) → items ≡ [] → places ≡ [] → ItemsSoFar c labels 0 0 items places
  items_start items places ei ep =
      record {
        real = subst (EachIn (λ x. (y : AtomItem) × IsListed c labels x.set x.place y)) (sym ei) (λ k x at. absurd cc);
        each = λ m k y before. absurd (elim before [ inl lt ↦ omega arith | inr e ↦ (let lt = e.1 in omega arith) ]);
        sets = subst (EachIn (IsPlaceSet c)) (sym ep) (λ k s at. absurd cc);
      }

  entry_grown : (old new : List ℕ) (m k : ℕ) (y : AtomItem) (x : Item) → Grows old new → IsEntryOf old m k y x → IsEntryOf new m k y x
  entry_grown old new m k y x grown is = (is.0, is.1, hash_grown old new y x.hash grown is.2)

  pub listed_once : (n j : ℕ) (y v : AtomItem) → IsListed c labels n j y → IsListed c labels n j v → y ≡ v
  listed_once n j y v f g =
      let set : f.0 ≡ g.0 = same_value labels n n f.0 g.0 refl f.2 g.2 in
      let both : Some (kind.Atoms f.1) ≡ Some (kind.Atoms g.1) = sym f.3 ∙ subst (λ z. slice_get c z ≡ Some (kind.Atoms g.1)) (sym set) g.3 in
      let same : f.1 ≡ g.1 = cc in
      same_value g.1 j j y v refl (subst (λ l. slice_get l j ≡ Some y) same f.4) g.4

  items_old : (n j : ℕ) (items : List Item) (x : Item) (old new : List ℕ) → Grows old new → ItemsSoFar c labels n j items old → (m k : ℕ) (v : AtomItem) → (m < n) ⊎ ((m ≡ n) × (k < j)) → IsListed c labels m k v
      → SomeIn (IsEntryOf new m k v) (items ++ x ∷ [])
  items_old n j items x old new grown so m k v before at =
      let f = so.each m k v before at in
      some_grown (IsEntryOf new m k v) items (items ++ x ∷ []) (grows_pushed items x) (f.0, f.1, entry_grown old new m k v f.0 grown f.2)

  -- one more item
  pub items_more : (n j : ℕ) (y : AtomItem) (x : Item) (items more : List Item) (old new : List ℕ) → IsListed c labels n j y → x.set ≡ n → x.place ≡ j → IsHash new y x.hash → more ≡ items ++ x ∷ [] → Grows old new → EachIn (IsPlaceSet c) new
      → ItemsSoFar c labels n j items old → ItemsSoFar c labels n (j + 1) more new
  items_more n j y x items more old new listed en ej hash em grown sets so =
      let this : IsEntryOf new n j y x = (en, ej, hash) in
      record {
        real = subst (EachIn (λ z. (v : AtomItem) × IsListed c labels z.set z.place v)) (sym em) (λ k z at. elim (get_pushed items x k z at) [
          | inl q ↦ so.real k z q.1
          | inr q ↦ subst (λ w. (v : AtomItem) × IsListed c labels w.set w.place v) q.1 (y, subst (λ a. IsListed c labels a x.place y) (sym en) (subst (λ b. IsListed c labels n b y) (sym ej) listed))
        ]);
        each = λ m k v before at. elim (cases_lt k j) [
          | inl less ↦ subst (SomeIn (IsEntryOf new m k v)) (sym em) (items_old n j items x old new grown so m k v (elim before [ inl lt ↦ inl lt | inr e ↦ inr (e.0, less) ]) at)
          | inr past ↦ elim before [
            | inl lt ↦ subst (SomeIn (IsEntryOf new m k v)) (sym em) (items_old n j items x old new grown so m k v (inl lt) at)
            | inr e ↦
                let lt = e.1 in
                let here : k ≡ j = omega arith in
                let moved : IsListed c labels n j v = subst (λ a. IsListed c labels a j v) e.0 (subst (λ b. IsListed c labels m b v) here at) in
                let same : y ≡ v = listed_once n j y v listed moved in
                let found : IsEntryOf new m k v x = (en ∙ sym e.0, ej ∙ sym here, subst (λ z. IsHash new z x.hash) same hash) in
                subst (SomeIn (IsEntryOf new m k v)) (sym em) (x, in_last items x, found)
          ]
        ];
        sets = sets;
      }

  -- after the last item of a set
  pub items_next : (n j s : ℕ) (listed : List AtomItem) (items : List Item) (places : List ℕ) → slice_get labels n ≡ Some s → slice_get c s ≡ Some (kind.Atoms listed) → length listed ≤ j → ItemsSoFar c labels n j items places → ItemsSoFar c labels (n + 1) 0 items places
  items_next n j s listed items places hn hs le so =
      record {
        real = so.real;
        each = λ m k y before at. elim (cases_lt m n) [
          | inl less ↦ so.each m k y (inl less) at
          | inr past ↦
              let here : m ≡ n = elim before [ inl lt ↦ omega arith | inr e ↦ (let lt = e.1 in absurd (omega arith)) ] in
              let set : at.0 ≡ s = same_value labels m n at.0 s here at.2 hn in
              let both : Some (kind.Atoms at.1) ≡ Some (kind.Atoms listed) = sym at.3 ∙ subst (λ z. slice_get c z ≡ Some (kind.Atoms listed)) (sym set) hs in
              let same : at.1 ≡ listed = cc in
              let within = slice_get_within listed k y (subst (λ l. slice_get l k ≡ Some y) same at.4) in
              so.each m k y (inr (here, omega arith)) at
        ];
        sets = so.sets;
      }

  pub items_end : (n : ℕ) (items : List Item) (places : List ℕ) → length labels ≤ n → ItemsSoFar c labels n 0 items places → AreItems c labels places items
  items_end n items places le so = record { real = so.real; each = λ m k y at. (let w = slice_get_within labels m at.0 at.2 in so.each m k y (inl (omega arith)) at) }

-- an index stays one as the arena grows
module _ (c d : List Entry) (o : Extends c d) (labels : List ℕ) (atom_sets : EachIn (IsAtomSet c) labels) where
  listed_forth : (n j : ℕ) (y : AtomItem) → IsListed c labels n j y → IsListed d labels n j y
  listed_forth n j y at = (at.0, at.1, at.2, o at.0 (kind.Atoms at.1) at.3, at.4)

  pub listed_back : (n j : ℕ) (y : AtomItem) → IsListed d labels n j y → IsListed c labels n j y
  listed_back n j y at =
      let set = atom_sets n at.0 at.2 in
      let both : Some (kind.Atoms set.0) ≡ Some (kind.Atoms at.1) = sym (o at.0 (kind.Atoms set.0) set.1) ∙ at.3 in
      let same : set.0 ≡ at.1 = cc in
      (at.0, set.0, at.2, set.1, subst (λ l. slice_get l j ≡ Some y) (sym same) at.4)

  pub items_stay : (places : List ℕ) (items : List Item) → AreItems c labels places items → AreItems d labels places items
  items_stay places items are =
      record {
        real = λ k x at. (let r = are.real k x at in (r.0, listed_forth x.set x.place r.0 r.1));
        each = λ n j y at. are.each n j y (listed_back n j y at);
      }
