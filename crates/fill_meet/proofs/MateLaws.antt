-- Sets of places that share a place, by the places that they hold.
use Rattle.std.proofs.Common.{◌≡◌, ℕ, ◌+◌, ◌%◌, ◌<◌, ◌≤◌, inl, inr, List, [], ◌∷◌, ◌++◌, length, Some, slice_get, sym, ap, ◌∙◌, subst, arith}
use Rattle.std.proofs.lemmas.Bool.{cases_lt}
use Rattle.std.proofs.lemmas.Option.{slice_get_within}
use Rattle.fill_tokens.specs.declared.place.Place.{Place}
use Rattle.fill_arena.specs.Contents.{EachIn, In, IsPlaceSet, SomeIn}
use Rattle.fill_arena.specs.Stands.{PlaceStands}
use Rattle.fill_arena.specs.declared.entry.Entry.{Entry}
use Rattle.fill_arena.specs.declared.entry.Entry.TheVariants.{Places}
use Rattle.fill_arena.proofs.Lists.{get_pushed}
use Rattle.fill_meet.specs.Groups.{AreKeys, IsFirstFrom}
use Rattle.fill_meet.specs.Mates.{AreHolders, IsHolder, IsMated}
use Rattle.fill_meet.specs.Runs.{Grows, HasFrom}
use Rattle.fill_meet.specs.declared.holders.Holder.{Holder}
use Rattle.fill_meet.specs.declared.mates.Mated.{Mated}
use Rattle.fill_meet.proofs.Grown.{from_grown, has_or_not, in_grown, in_run, some_grown}
use Rattle.fill_meet.proofs.Lists.{same_value}
use Rattle.fill_meet.proofs.Trials.{places_unshared}

-- the holders of the places of the sets before the number n
pub record HeldBelow (c : List Entry) (sets : List ℕ) (list : List Holder) (n : ℕ) : Type 0 where
  pub each : (m s : ℕ) (p : Place) → m < n → slice_get sets m ≡ Some s → PlaceStands c s p → SomeIn (IsHolder p m) list

module _ (c : List Entry) (sets : List ℕ) where
  pub held_start : (list : List Holder) → HeldBelow c sets list 0
  held_start list = record { each = λ m s p lt. absurd (omega arith) }

  pub held_more : (old new : List Holder) (n s : ℕ) (places : List Place) → slice_get sets n ≡ Some s → slice_get c s ≡ Some (Places places) → Grows old new → ((p : Place) → In p places → SomeIn (IsHolder p n) new) → HeldBelow c sets old n → HeldBelow c sets new (n + 1)
  held_more old new n s places hn hs grown all below =
      record {
        each = λ m t p lt hm stands. elim (cases_lt m n) [
          | inl less ↦ some_grown (IsHolder p m) old new grown (below.each m t p less hm stands)
          | inr past ↦
              let here : m ≡ n = omega arith in
              let set : t ≡ s = same_value sets m n t s here hm hn in
              let both : Some (Places stands.0) ≡ Some (Places places) = sym stands.1 ∙ subst (λ z. slice_get c z ≡ Some (Places places)) (sym set) hs in
              let same : stands.0 ≡ places = cc in
              subst (λ z. SomeIn (IsHolder p z) new) (sym here) (all p (subst (In p) same stands.2))
        ];
      }

  pub held_end : (list : List Holder) (n : ℕ) → length sets ≤ n → HeldBelow c sets list n → AreHolders c sets list
  held_end list n le below = record { each = λ m s p hm stands. (let w = slice_get_within sets m s hm in below.each m s p (omega arith) hm stands) }

  -- a set whose holders were all put is mated
  pub mated : (list : List Holder) (numbers : List ℕ) (m : Mated) (start : ℕ) (places : List Place) → slice_get c m.set ≡ Some (Places places) → m.run.start ≡ start → start ≤ length numbers → m.run.end ≡ length numbers → AreHolders c sets list → EachIn (IsPlaceSet c) sets
      → ((p : Place) (n : ℕ) → In p places → SomeIn (IsHolder p n) list → HasFrom numbers start n) → IsMated c sets numbers m
  mated list numbers m start places hs begin low end held known put =
      record {
        order = omega arith;
        within = omega arith;
        each = λ n t ht. elim (has_or_not numbers start n) [
          | inl has ↦ inl (in_run numbers m.run start n begin end has)
          | inr none ↦
              let set = known n t ht in
              inr (places_unshared c m.set t places set.0 hs set.1 (λ some. none (put some.0 n some.1 (held.each n t some.0 ht (set.0, set.1, some.2)))))
        ];
      }

  pub mated_grown : (old new : List ℕ) (m : Mated) → Grows old new → IsMated c sets old m → IsMated c sets new m
  mated_grown old new m grown is =
      record {
        order = is.order;
        within = (let a = is.within in let b = grown.long in omega arith);
        each = λ n t ht. elim (is.each n t ht) [ inl has ↦ inl (in_grown old new m.run n grown has) | inr apart ↦ inr apart ];
      }

  -- one more set
  pub mates_more : (old new : List ℕ) (known more : List Mated) (m : Mated) → Grows old new → more ≡ known ++ m ∷ [] → IsMated c sets new m → EachIn (IsMated c sets old) known → EachIn (IsMated c sets new) more
  mates_more old new known more m grown em is all = λ k n at. elim (get_pushed known m k n (subst (λ l. slice_get l k ≡ Some n) em at)) [
    | inl q ↦ mated_grown old new n grown (all k n q.1)
    | inr q ↦ subst (IsMated c sets new) q.1 is
  ]

  pub mates_grown : (old new : List ℕ) (known : List Mated) → Grows old new → EachIn (IsMated c sets old) known → EachIn (IsMated c sets new) known
  mates_grown old new known grown all = λ k m at. mated_grown old new m grown (all k m at)

-- what was put of the holders before a place that have the hash
pub record PutBelow (list : List Holder) (numbers : List ℕ) (start hash e : ℕ) : Type 0 where
  pub each : (k : ℕ) (x : Holder) → k < e → slice_get list k ≡ Some x → x.hash ≡ hash → HasFrom numbers start x.set

module _ (list : List Holder) (start hash count : ℕ) (keys : List ℕ) (are : AreKeys (λ x. x.hash % count) list keys) where
  -- past holders of other hashes
  pub put_on : (numbers : List ℕ) (e f : ℕ) → IsFirstFrom keys (hash % count) e f → PutBelow list numbers start hash e → PutBelow list numbers start hash f
  put_on numbers e f next below =
      record {
        each = λ k x lt hx same. elim (cases_lt k e) [
          | inl less ↦ below.each k x less hx same
          | inr past ↦
              let key : slice_get keys k ≡ Some (hash % count) = are.each k x hx ∙ ap (λ n. Some (n % count)) same in
              let least = next.least k past key in
              absurd (omega arith)
        ];
      }

  pub put_start : (numbers : List ℕ) → PutBelow list numbers start hash 0
  put_start numbers = record { each = λ k x lt. absurd (omega arith) }

  pub put_more : (old new : List ℕ) (e : ℕ) (x : Holder) → slice_get list e ≡ Some x → Grows old new → (x.hash ≡ hash → HasFrom new start x.set) → PutBelow list old start hash e → PutBelow list new start hash (e + 1)
  put_more old new e x hx grown put below =
      record {
        each = λ k y lt hy same. elim (cases_lt k e) [
          | inl less ↦ from_grown old new start y.set grown (below.each k y less hy same)
          | inr past ↦
              let is : x ≡ y = same_value list e k x y (omega arith) hx hy in
              subst (λ z. HasFrom new start z.set) is (put (ap (λ z. z.hash) is ∙ same))
        ];
      }

  pub put_end : (numbers : List ℕ) (e : ℕ) → length list ≤ e → PutBelow list numbers start hash e → (k : ℕ) (x : Holder) → slice_get list k ≡ Some x → x.hash ≡ hash → HasFrom numbers start x.set
  put_end numbers e le below k x hx same = let w = slice_get_within list k x hx in below.each k x (omega arith) hx same
