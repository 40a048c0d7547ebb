-- What was made stays right as the arena grows and as more is kept.
use Rattle.std.proofs.Common.{◌≡◌, ◌<◌, ℕ, Ordering, Less, Equal, Greater, Bool, true, false, cond, List, Option, Some, refl, sym, ap, ◌∙◌, subst, rules}
use Rattle.std.specs.Cmp.Lexicographic.{slice_cmp}
use Rattle.std.specs.Ordering.{MatchOrdering, is_eq, nat_cmp, ordering_then}
use Rattle.std.proofs.lemmas.Cmp.{ranked}
use Rattle.std.proofs.lemmas.Map.Text.{is_eq-slice_cmp}
use Rattle.fill_arena.specs.Contents.{Extends}
use Rattle.fill_arena.specs.declared.entry.Entry.{Entry}
use Rattle.fill_arena.proofs.Lists.{extends_on}
use Rattle.fill_sources.specs.Sets.{AreRowTexts, IsRight, pair_eq, texts_of}
use Rattle.fill_sources.specs.declared.row_texts.RowTexts.{RowTexts}
use Rattle.fill_sources.specs.declared.memo.Memo.{Memo}
use Rattle.fill_sources.specs.declared.row.OnRow.{OnRow}
use Rattle.fill_sources.proofs.Finding.{recalled_stays}
use Rattle.fill_sources.proofs.Naming.{same_text}

pub right_stays : (on : OnRow) (texts : List (List ℕ)) (c d : List Entry) → Extends c d → (memo : Memo) → IsRight on texts c memo → IsRight on texts d memo
right_stays on texts c d o memo r =
    record {
      indexes = r.indexes;
      places = recalled_stays on.settings.profile.tokens c d o texts memo.places.items r.places;
      sources = λ k made h v at e x. r.sources k made h v at e (extends_on c d e o x);
      parts = λ k made h e x. r.parts k made h e (extends_on c d e o x);
    }

pub known_stays : (on : OnRow) (c d : List Entry) → Extends c d → (k : RowTexts) → AreRowTexts on c k → AreRowTexts on d k
known_stays on c d o k h = record { exact = h.exact; once = h.once; texts = h.texts; memo = right_stays on (texts_of k) c d o k.memo h.memo }

pub pair_same : (x y : ℕ × ℕ) → pair_eq x y ≡ true → x ≡ y
pair_same x y h =
    let both : (x.0 ≡ y.0) × (x.1 ≡ y.1) = search rules in
    let a : x ≡ (y.0, x.1) = ap (λ (n : ℕ). (let z : ℕ × ℕ = (n, x.1) in z)) both.0 in
    a ∙ ap (λ (n : ℕ). (let z : ℕ × ℕ = (y.0, n) in z)) both.1

both_tied : (a b : Ordering) → is_eq (ordering_then a b) ≡ true → (is_eq a ≡ true) × (is_eq b ≡ true)
both_tied Less b h = absurd cc
both_tied Equal b h = (refl, h)
both_tied Greater b h = absurd cc

tied_same : (P Q R : Type 0) (o : Ordering) → MatchOrdering o P Q R → is_eq o ≡ true → Q
tied_same P Q R Less h e = absurd cc
tied_same P Q R Equal h e = h
tied_same P Q R Greater h e = absurd cc

abbrev pub text_and_depth : List ℕ × ℕ → List ℕ × ℕ → Bool
text_and_depth x y = is_eq (ordering_then (slice_cmp nat_cmp x.0 y.0) (nat_cmp x.1 y.1))

pub part_same : (x y : List ℕ × ℕ) → text_and_depth x y ≡ true → x ≡ y
part_same x y h =
    let both = both_tied (slice_cmp nat_cmp x.0 y.0) (nat_cmp x.1 y.1) h in
    let a : x ≡ (y.0, x.1) = ap (λ (w : List ℕ). (let z : List ℕ × ℕ = (w, x.1) in z)) (same_text x.0 y.0 (sym (is_eq-slice_cmp x.0 y.0) ∙ both.0)) in
    a ∙ ap (λ (n : ℕ). (let z : List ℕ × ℕ = (y.0, n) in z)) (tied_same (x.1 < y.1) (x.1 ≡ y.1) (y.1 < x.1) (nat_cmp x.1 y.1) (ranked x.1 y.1 (nat_cmp x.1 y.1) refl) both.1)

-- a table that tells what is right still does with one row more
module _ {K A : Type 0} (same : K → K → Bool) (sound : (x y : K) → same x y ≡ true → x ≡ y) (P : K → A → Type 0) (f g : K → Option A) (s : K) (made : A) where
  put_step : (k : K) (m : A) (b : Bool) → same s k ≡ b → g k ≡ cond b (Some made) (f k) → g k ≡ Some m → P s made → ((q : K) (n : A) → f q ≡ Some n → P q n) → P k m
  put_step k m true e u h new r =
      let q : Some made ≡ Some m = sym u ∙ h in
      let one : made ≡ m = cc in
      subst (λ v. P k v) one (subst (λ v. P v made) (sound s k e) new)
  put_step k m false e u h new r = r k m (sym u ∙ h)

  pub put_right : ((k : K) → g k ≡ cond (same s k) (Some made) (f k)) → P s made → ((q : K) (n : A) → f q ≡ Some n → P q n) → (k : K) (m : A) → g k ≡ Some m → P k m
  put_right u new r k m h = put_step k m (same s k) refl (u k) h new r
