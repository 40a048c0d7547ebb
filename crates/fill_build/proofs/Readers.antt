-- What is put for a piece is exactly what gives it.
use Rattle.std.proofs.Common.{◌≡◌, ◌≢◌, ◌↔◌, ℕ, ◌+◌, ◌-◌, ◌<◌, ◌≤◌, ◌⊎◌, inl, inr, true, List, [], length, take, drop, All, Contains, Some, slice_get, slice_range, refl, sym, ap, ◌∙◌, subst, arith, length-drop, length-take}
use Rattle.std.specs.Char.{IsScalar}
use Rattle.std.proofs.lemmas.Bool.{cases_lt}
use Rattle.std.proofs.lemmas.List.{take-take, take_all, length-take-le}
use Rattle.std.proofs.lemmas.Option.{slice_get_within}
use Rattle.fill_tokens.specs.Value.{HasValue}
use Rattle.fill_tokens.specs.TokenSet.{IsPlaceOf}
use Rattle.fill_tokens.specs.declared.place.Place.{Place}
use Rattle.fill_tokens.proofs.ValueLaws.{value_within}
use Rattle.fill_tree.specs.Tree.{SourceTree, AtomTree, constant, whole, sub}
use Rattle.fill_tree.specs.Grammar.{Allows}
use Rattle.fill_arena.specs.Contents.{SomeIn, EachIn, Extends}
use Rattle.fill_arena.specs.Stands.{AtomFits}
use Rattle.fill_arena.specs.WellMade.{IsAtomItem}
use Rattle.fill_arena.specs.declared.entry.AtomItem.{AtomItem}
use Rattle.fill_arena.specs.declared.entry.Entry.{Entry}
use Rattle.fill_arena.proofs.Lists.{extends_on, extends_same}
use Rattle.fill_sources.specs.Gives.{Gives}
use Rattle.fill_sources.specs.declared.row.OnRow.{OnRow}
use Rattle.fill_sources.specs.Readers.{AddsAtoms, IsReadable, ReadsBetween, ReadsSpot, ReadsWhole}
use Rattle.fill_build.specs.Hits.{BeginAlike, AreHits, spot_of}
use Rattle.fill_build.specs.Pieces.{AreConstants, AreItemsOf, IsPiece, IsWithin, PieceAtom, piece_rest, piece_text}
use Rattle.fill_build.specs.declared.hits.Hit.{Hit}
use Rattle.fill_build.specs.declared.piece.Piece.{Piece}
use Rattle.fill_build.proofs.Items.{item_stays}
use Rattle.fill_build.proofs.Lists.{extends_length, here, piece_range, same_value}
use Rattle.fill_build.proofs.Together.{together_there}

-- a piece is as short as its text
pub piece_short : (p : Piece) → IsWithin p → (u : List ℕ) → u ≡ piece_text p → length u ≤ 100
piece_short p is u e =
    let long = length-take p.width (drop p.from p.text.now) in
    let same : length u ≡ length (piece_text p) = ap length e in
    let inside = is.within in
    let short = is.short in
    omega arith

-- the piece's constant, where a constant may be it
abbrev pub IsConstant : Piece → AtomTree → Type 0
IsConstant p a = (p.constant ≡ true) × (a ≡ constant (piece_text p))

-- one of the first n hits is read
abbrev pub ReadsSome : OnRow → List (List ℕ) → Piece → List Hit → ℕ → AtomTree → Type 0
ReadsSome on texts p hits n a = (k : ℕ) × (h : Hit) × (k < n) × (slice_get hits k ≡ Some h) × ReadsSpot on texts (spot_of h) p.width a

-- items that stand for the constant and for what reads the first n hits
pub record ItemsSoFar (on : OnRow) (texts : List (List ℕ)) (p : Piece) (hits : List Hit) (n : ℕ) (c : List Entry) (items : List AtomItem) : Type 0 where
  pub scalars : All IsScalar (piece_text p)
  pub each : EachIn (IsAtomItem c (length c)) items
  pub exact : (d : List Entry) → Extends c d → (a : AtomTree) → SomeIn (AtomFits a d) items ↔ (IsConstant p a ⊎ ReadsSome on texts p hits n a)

module _ (on : OnRow) (texts : List (List ℕ)) (p : Piece) (hits : List Hit) where
  pub items_start : (c : List Entry) (items : List AtomItem) → AreConstants p items → ItemsSoFar on texts p hits 0 c items
  items_start c items h =
      record {
        scalars = h.scalars;
        each = h.each c;
        exact = λ d o a. (λ s. inl ((h.exact d a).0 s), λ s. elim s [ inl one ↦ (h.exact d a).1 one | inr r ↦ let none = r.2 in absurd (omega arith) ]);
      }

  pub items_more : (b c : List Entry) → Extends b c → (n : ℕ) (h : Hit) → slice_get hits n ≡ Some h → (old new : List AtomItem) →
      ItemsSoFar on texts p hits n b old → AddsAtoms c old new (ReadsSpot on texts (spot_of h) p.width) → ItemsSoFar on texts p hits (n + 1) c new
  items_more b c o n h at old new s put =
      record {
        scalars = s.scalars;
        each = λ k x there. elim (put.each x (k, there)) [
          | inl was ↦ item_stays b c o (length b) (length c) (extends_length b c o) x (s.each was.0 x was.1)
          | inr is ↦ is c (extends_same c)
        ];
        exact = λ d k a. (
          λ f. elim ((put.adds d k a).0 f) [
            | inl was ↦ elim ((s.exact d (extends_on b c d o k) a).0 was) [ inl one ↦ inl one | inr r ↦ let lt = r.2 in inr (r.0, r.1, omega arith, r.3, r.4) ]
            | inr q ↦ inr (n, h, omega arith, at, q)
          ],
          λ f. elim f [
            | inl one ↦ (put.adds d k a).1 (inl ((s.exact d (extends_on b c d o k) a).1 (inl one)))
            | inr r ↦ elim (cases_lt r.0 n) [
              | inl lt ↦ (put.adds d k a).1 (inl ((s.exact d (extends_on b c d o k) a).1 (inr (r.0, r.1, lt, r.3, r.4))))
              | inr le ↦
                  let up = r.2 in
                  let same : r.0 ≡ n = omega arith in
                  (put.adds d k a).1 (inr (subst (λ (z : Hit). ReadsSpot on texts (spot_of z) p.width a) (same_value hits r.0 n r.1 h same r.3 at) r.4))
            ]
          ],
        );
      }

  module _ (is : IsPiece on.settings.constants p) (right : AreHits texts (piece_rest p) p.width hits) where
    room : (long at width : ℕ) → 1 ≤ width → width ≤ long - at → at + width ≤ long
    room long at width some le = omega arith

    rest_long : p.width ≤ length (piece_rest p)
    rest_long =
        let inside = is.within.within in
        let long = length-drop p.from p.text.now in
        omega arith

    piece_long : length (piece_text p) ≡ p.width
    piece_long = length-take-le p.width (piece_rest p) rest_long

    filled : piece_text p ≢ []
    filled e =
        let some = is.within.some in
        let long = piece_long in
        let none : length (piece_text p) ≡ 0 = ap length e in
        absurd (omega arith)

    -- what a hit that is listed says of its text
    module _ (k : ℕ) (h : Hit) (at : slice_get hits k ≡ Some h) where
      pub readable : IsReadable texts (spot_of h) p.width
      readable =
          let f = (right.exact h).0 (k, at) in
          let one = (f.0.2 p.width).1 f.1 in
          let first = one.0 in
          let long = length-drop h.at f.0.0 in
          (f.0.0, f.0.1, room (length f.0.0) h.at p.width is.within.some (omega arith))

      alike : (t : List ℕ) → slice_get texts h.text ≡ Some t → BeginAlike (drop h.at t) (piece_rest p) p.width
      alike t there =
          let f = (right.exact h).0 (k, at) in
          let same = same_value texts h.text h.text f.0.0 t refl f.0.1 there in
          subst (λ u. BeginAlike (drop h.at u) (piece_rest p) p.width) same ((f.0.2 p.width).1 f.1)

      whole_text : (t : List ℕ) → slice_get texts h.text ≡ Some t → p.width ≡ length t → t ≡ piece_text p
      whole_text t there all =
          let one = alike t there in
          let first = one.0 in
          let long = length-drop h.at t in
          let some = is.within.some in
          let start : h.at ≡ 0 = omega arith in
          let front : take p.width (drop 0 t) ≡ piece_text p = subst (λ n. take p.width (drop n t) ≡ piece_text p) start one.2 in
          sym (take_all p.width t (omega arith)) ∙ front

      whole_gives : (a : AtomTree) → ReadsWhole on texts (spot_of h) p.width a → PieceAtom on (piece_text p) a
      whole_gives (constant u) r = absurd r
      whole_gives (whole x) r =
          let given = subst (λ v. Gives on v x) (whole_text r.0 r.1 r.3) r.2 in
          ((given.source, given.shallow), (given.value, filled))
      whole_gives (sub x l q) r = absurd r

      between_gives : (a : AtomTree) → ReadsBetween on texts (spot_of h) p.width a → PieceAtom on (piece_text p) a
      between_gives (constant u) r = absurd r
      between_gives (whole x) r = absurd r
      between_gives (sub x l q) r =
          let given = r.2 in
          let some = is.within.some in
          let piece : piece_text p ≡ slice_range r.0 h.at (h.at + p.width) = sym (alike r.0 r.1).2 ∙ sym (piece_range r.0 h.at p.width) in
          ((given.source, given.shallow, r.3.0, r.4.0), (r.0, h.at, h.at + p.width, given.value, r.3.1, r.4.1, omega arith, piece))

      pub hit_gives : (a : AtomTree) → ReadsSpot on texts (spot_of h) p.width a → PieceAtom on (piece_text p) a
      hit_gives a r = elim r [ inl w ↦ whole_gives a w | inr b ↦ between_gives a b ]

    constant_gives : All IsScalar (piece_text p) → (a : AtomTree) → IsConstant p a → PieceAtom on (piece_text p) a
    constant_gives scalars a h =
        let made : PieceAtom on (piece_text p) (constant (piece_text p)) = ((filled, scalars, is.constant.0 h.0), (refl, filled)) in
        subst (PieceAtom on (piece_text p)) (sym h.1) made

    -- where a known text goes on as the piece does, there is a hit
    hit_there : (k at : ℕ) (t : List ℕ) → slice_get texts k ≡ Some t → BeginAlike (drop at t) (piece_rest p) p.width → (n : ℕ) × (h : Hit) × (slice_get hits n ≡ Some h) × (h.text ≡ k) × (h.at ≡ at)
    hit_there k at t there one =
        let run = together_there (drop at t) (piece_rest p) in
        let h : Hit = record { text = k; at = at; run = run.0 } in
        let listed = (right.exact h).1 ((t, there, run.1), (run.1 p.width).0 one) in
        (listed.0, h, listed.1, refl, refl)

    -- the width of the piece is that of the place where a text has it
    between_width : (t : List ℕ) (a b : ℕ) → b ≤ length t → a < b → piece_text p ≡ slice_range t a b → b - a ≡ p.width
    between_width t a b inside less same =
        let drops = length-drop a t in
        let takes = length-take-le (b - a) (drop a t) (omega arith) in
        sym takes ∙ (ap length (sym same) ∙ piece_long)

    -- what the hit at the place reads
    between_at : (x : SourceTree) (l q : Place) (t : List ℕ) (a b n : ℕ) (h : Hit) (k : ℕ) → slice_get hits n ≡ Some h → h.text ≡ k → h.at ≡ a → slice_get texts k ≡ Some t → b ≡ a + p.width
        → Gives on t x → IsPlaceOf on.settings.profile.tokens l → IsPlaceOf on.settings.profile.tokens q → HasValue l t a → HasValue q t b → ReadsSome on texts p hits (length hits) (sub x l q)
    between_at x l q t a b n h k at text start there ends given is_l is_q left right_end =
        let stop : b ≡ h.at + p.width = omega arith in (
          n,
          h,
          slice_get_within hits n h at,
          at,
          inr (t, subst (λ m. slice_get texts m ≡ Some t) (sym text) there, given, (is_l, subst (HasValue l t) (sym start) left), (is_q, subst (HasValue q t) stop right_end)),
        )

    whole_at : (x : SourceTree) (n : ℕ) (h : Hit) (k : ℕ) → slice_get hits n ≡ Some h → h.text ≡ k → slice_get texts k ≡ Some (piece_text p) → Gives on (piece_text p) x
        → ReadsSome on texts p hits (length hits) (whole x)
    whole_at x n h k at text there given = (
      n,
      h,
      slice_get_within hits n h at,
      at,
      inl (piece_text p, subst (λ m. slice_get texts m ≡ Some (piece_text p)) (sym text) there, given, sym piece_long),
    )

    module _ (from_source : (v : List ℕ) → Contains texts v ↔ ((x : SourceTree) × Gives on v x)) where
      text_there : (v : List ℕ) (x : SourceTree) → Gives on v x → (k : ℕ) × (slice_get texts k ≡ Some v)
      text_there v x given = let has = (from_source v).1 (x, given) in (has.0, here texts has.0 v has.1 (sym has.2))

      between_read : (x : SourceTree) (l q : Place) (t : List ℕ) (a b : ℕ) → Gives on t x → IsPlaceOf on.settings.profile.tokens l → IsPlaceOf on.settings.profile.tokens q → HasValue l t a → HasValue q t b
          → a < b → piece_text p ≡ slice_range t a b → ReadsSome on texts p hits (length hits) (sub x l q)
      between_read x l q t a b given is_l is_q left right_end less same =
          let text = text_there t x given in
          let width = between_width t a b (value_within q t b right_end) less same in
          let piece : take p.width (drop a t) ≡ take p.width (piece_rest p) = subst (λ n. take n (drop a t) ≡ piece_text p) width (sym same) in
          let drops = length-drop a t in
          let inside = value_within q t b right_end in
          let hit = hit_there text.0 a t text.1 (omega arith, rest_long, piece) in
          between_at x l q t a b hit.0 hit.1 text.0 hit.2 hit.3 hit.4 text.1 (omega arith) given is_l is_q left right_end

      pub is_read : (a : AtomTree) → PieceAtom on (piece_text p) a → IsConstant p a ⊎ ReadsSome on texts p hits (length hits) a
      is_read (constant u) h =
          let same : piece_text p ≡ u = h.1.0 in
          inl (is.constant.1 (subst (Allows on.settings.constants) (sym same) h.0.2), ap constant (sym same))
      is_read (whole x) h =
          let given : Gives on (piece_text p) x = record { source = h.0.0; shallow = h.0.1; value = h.1.0 } in
          let text = text_there (piece_text p) x given in
          let long = piece_long in
          let hit = hit_there text.0 0 (piece_text p) text.1 (omega arith, rest_long, take-take p.width p.width (piece_rest p) (omega arith)) in
          inr (whole_at x hit.0 hit.1 text.0 hit.2 hit.3 text.1 given)
      is_read (sub x l q) h =
          let given : Gives on h.1.0 x = record { source = h.0.0; shallow = h.0.1; value = h.1.3 } in
          inr (between_read x l q h.1.0 h.1.1 h.1.2 given h.0.2 h.0.3 h.1.4 h.1.5 h.1.6 h.1.7)

      pub items_end : (n : ℕ) (c : List Entry) (items : List AtomItem) → length hits ≤ n → ItemsSoFar on texts p hits n c items → AreItemsOf on c (piece_text p) items
      items_end n c items all s =
          record {
            each = s.each;
            exact = λ d o a. (
              λ f. elim ((s.exact d o a).0 f) [ inl one ↦ constant_gives s.scalars a one | inr r ↦ hit_gives r.0 r.1 r.3 a r.4 ],
              λ g. (s.exact d o a).1 (elim (is_read a g) [ inl one ↦ inl one | inr r ↦ let lt = r.2 in inr (r.0, r.1, omega arith, r.3, r.4) ]),
            );
          }
