-- Items that are put to others, and the sets of them.
use Rattle.std.proofs.Common.{◌≡◌, ◌≢◌, ◌↔◌, ◌⊎◌, inl, inr, ℕ, ◌+◌, ◌≤◌, List, [], ◌∷◌, ◌++◌, length, None, Some, slice_get, refl, sym, ap, ◌∙◌, subst, arith}
use Rattle.std.proofs.lemmas.Bool.{cases_lt}
use Rattle.std.proofs.lemmas.Option.{slice_get_within}
use Rattle.fill_tokens.specs.Value.{HasValue}
use Rattle.fill_tokens.specs.TokenSet.{IsPlaceOf}
use Rattle.fill_tree.specs.Tree.{SourceTree, AtomTree, col, select, constant, whole, sub}
use Rattle.fill_arena.specs.Contents.{EachIn, Extends, SomeIn}
use Rattle.fill_arena.specs.Stands.{AtomFits, SourceFits}
use Rattle.fill_arena.specs.WellMade.{OlderSources}
use Rattle.fill_arena.specs.declared.entry.AtomItem.{AtomItem}
use Rattle.fill_arena.specs.declared.entry.AtomItem.TheVariants.{Whole, Sub}
use Rattle.fill_arena.specs.declared.entry.Entry.{Entry}
use Rattle.fill_arena.specs.declared.entry.Entry.TheVariants as kind
use Rattle.fill_arena.specs.declared.entry.SourceItem.{SourceItem}
use Rattle.fill_arena.specs.declared.entry.SourceItem.TheVariants as item
use Rattle.fill_arena.proofs.Lists.{extends_on, extends_same}
use Rattle.fill_sources.specs.Gives.{AreSourcesOf, ArePlacesAt, Gives, at_depth}
use Rattle.fill_sources.specs.Origins.{AreTexts, IsOrigin}
use Rattle.fill_sources.specs.Readers.{AddsAtoms, AddsSources, AreAtomsOf, AreSourceItemsOf, IsOldAtom, IsOldSource, Puts, ReadsBetween, ReadsFirst, ReadsSpot, ReadsWhole}
use Rattle.fill_sources.specs.Sets.{GivesFirst, Lasts, Reads}
use Rattle.fill_sources.specs.declared.row.OnRow.{OnRow}
use Rattle.fill_sources.specs.declared.spots.Spot.{Spot}
use Rattle.fill_sources.specs.declared.texts.Named.{Named}
use Rattle.fill_sources.specs.declared.texts.Origin.{Origin}
use Rattle.fill_sources.specs.declared.texts.Origin.TheVariants as origin
use Rattle.fill_sources.specs.declared.texts.Texts.{Texts}
use Rattle.fill_sources.proofs.Lists.{in_empty, in_pushed, none_in, same_at, some_empty, some_last, some_more, some_pushed}
use Rattle.fill_sources.proofs.Origins.{origin_in, origin_of}

module _ {I T : Type 0} (Is : List Entry → I → Type 0) (Fits : T → List Entry → I → Type 0) where
  -- nothing was put, and nothing has the property
  pub puts_none : (c : List Entry) (items : List I) (Q : T → Type 0) → ((x : T) → Q x → ⊥) → Puts Is Fits c items items Q
  puts_none c items Q none = record {
    each = λ i h. inl h;
    adds = λ d o x. (λ s. inl s, λ s. elim s [ inl old ↦ old | inr q ↦ absurd (none x q) ]);
  }

  -- one item was put
  pub puts_one : (c : List Entry) (items new : List I) (i : I) (Q : T → Type 0) → new ≡ items ++ i ∷ [] → ((d : List Entry) → Extends c d → Is d i) →
      ((d : List Entry) → Extends c d → (x : T) → Fits x d i ↔ Q x) → Puts Is Fits c items new Q
  puts_one c items new i Q is good fits = subst (λ (l : List I). Puts Is Fits c items l Q) (sym is) (record {
    each = λ j h. elim (in_pushed items i j h) [ inl old ↦ inl old | inr same ↦ inr (λ d o. subst (λ (z : I). Is d z) same (good d o)) ];
    adds = λ d o x. (
      λ s. elim (some_pushed (Fits x d) items i s) [ inl old ↦ inl old | inr f ↦ inr ((fits d o x).0 f) ],
      λ s. elim s [ inl old ↦ some_more (Fits x d) items i old | inr q ↦ some_last (Fits x d) items i ((fits d o x).1 q) ],
    );
  })

  -- some were put, and then others
  pub puts_then : (c d : List Entry) → Extends c d → (old mid new : List I) (P Q R : T → Type 0) → Puts Is Fits c old mid P → Puts Is Fits d mid new Q → ((x : T) → R x ↔ (P x ⊎ Q x)) → Puts Is Fits d old new R
  puts_then c d o old mid new P Q R f g both = record {
    each = λ i h. elim (g.each i h) [
      | inl m ↦ elim (f.each i m) [ inl x ↦ inl x | inr l ↦ inr (λ e k. l e (extends_on c d e o k)) ]
      | inr l ↦ inr l
    ];
    adds = λ e k x. (
      λ s. elim ((g.adds e k x).0 s) [
        | inl m ↦ elim ((f.adds e (extends_on c d e o k) x).0 m) [ inl z ↦ inl z | inr p ↦ inr ((both x).1 (inl p)) ]
        | inr q ↦ inr ((both x).1 (inr q))
      ],
      λ s. elim s [
        | inl z ↦ (g.adds e k x).1 (inl ((f.adds e (extends_on c d e o k) x).1 (inl z)))
        | inr r ↦ elim ((both x).0 r) [
          | inl p ↦ (g.adds e k x).1 (inl ((f.adds e (extends_on c d e o k) x).1 (inr p)))
          | inr q ↦ (g.adds e k x).1 (inr q)
        ]
      ],
    );
  }

  -- the same for a property that is the same
  pub puts_alike : (c : List Entry) (old new : List I) (P R : T → Type 0) → Puts Is Fits c old new P → ((x : T) → R x ↔ P x) → Puts Is Fits c old new R
  puts_alike c old new P R f both = record {
    each = f.each;
    adds = λ d o x. (
      λ s. elim ((f.adds d o x).0 s) [ inl z ↦ inl z | inr p ↦ inr ((both x).1 p) ],
      λ s. elim s [ inl z ↦ (f.adds d o x).1 (inl z) | inr r ↦ (f.adds d o x).1 (inr ((both x).0 r)) ],
    );
  }

  -- the arena grew in between
  pub puts_later : (c d : List Entry) → Extends c d → (old new : List I) (Q : T → Type 0) → Puts Is Fits c old new Q → Puts Is Fits d old new Q
  puts_later c d o old new Q f = record {
    each = λ i h. elim (f.each i h) [ inl x ↦ inl x | inr l ↦ inr (λ e k. l e (extends_on c d e o k)) ];
    adds = λ e k x. f.adds e (extends_on c d e o k) x;
  }

  -- all that was put to no items
  pub puts_each : (c : List Entry) (items : List I) (Q : T → Type 0) → Puts Is Fits c [] items Q → EachIn (Is c) items
  puts_each c items Q f k i h = elim (f.each i (k, h)) [ inl old ↦ absurd (in_empty i old) | inr l ↦ l c (extends_same c) ]

  pub puts_all : (c : List Entry) (items : List I) (Q : T → Type 0) → Puts Is Fits c [] items Q → (d : List Entry) → Extends c d → (x : T) → SomeIn (Fits x d) items ↔ Q x
  puts_all c items Q f d o x = (
    λ s. elim ((f.adds d o x).0 s) [ inl old ↦ absurd (some_empty (Fits x d) old) | inr q ↦ q ],
    λ q. (f.adds d o x).1 (inr q),
  )

-- no set is needed where there is no item
pub no_atoms : (b c : List Entry) (items : List AtomItem) → length items ≡ 0 → Extends b c → AreAtomsOf b c items None
no_atoms b c items none o on w fits d k a g =
    let s = (fits d (extends_on b c d o k) a).1 g in
    none_in items s.0 none s.1

pub atoms_made : (b c : List Entry) (items : List AtomItem) (s : ℕ) → Extends b c → slice_get c s ≡ Some (kind.Atoms items) → AreAtomsOf b c items (Some s)
atoms_made b c items s o at on w fits d k = (
  (items, k s (kind.Atoms items) at),
  λ a. (
    λ h.
        let one : Some (kind.Atoms h.0) ≡ Some (kind.Atoms items) = sym h.1 ∙ k s (kind.Atoms items) at in
        let same : h.0 ≡ items = cc in
        (fits d (extends_on b c d o k) a).0 (subst (λ (l : List AtomItem). SomeIn (AtomFits a d) l) same h.2),
    λ g. (items, k s (kind.Atoms items) at, (fits d (extends_on b c d o k) a).1 g),
  ),
)

pub no_sources : (b c : List Entry) (items : List SourceItem) → length items ≡ 0 → Extends b c → AreSourceItemsOf b c items None
no_sources b c items none o on v fits d k x g =
    let s = (fits d (extends_on b c d o k) x).1 g in
    none_in items s.0 none s.1

pub sources_made : (b c : List Entry) (items : List SourceItem) (s : ℕ) → Extends b c → slice_get c s ≡ Some (kind.Sources items) → AreSourceItemsOf b c items (Some s)
sources_made b c items s o at on v fits d k = (
  (items, k s (kind.Sources items) at),
  λ x. (
    λ h.
        let one : Some (kind.Sources h.0) ≡ Some (kind.Sources items) = sym h.1 ∙ k s (kind.Sources items) at in
        let same : h.0 ≡ items = cc in
        (fits d (extends_on b c d o k) x).0 (subst (λ (l : List SourceItem). SomeIn (SourceFits x d) l) same h.2),
    λ g. (items, k s (kind.Sources items) at, (fits d (extends_on b c d o k) x).1 g),
  ),
)

-- the item of a spot's whole text, and of its pieces
module _ (on : OnRow) (texts : List (List ℕ)) (h : Spot) (width : ℕ) (t : List ℕ) (at : slice_get texts h.text ≡ Some t) where
  abbrev one : (u : List ℕ) → slice_get texts h.text ≡ Some u → u ≡ t
  one u b = same_at texts h.text h.text u t refl b at

  pub no_whole : (length t ≢ width) → (a : AtomTree) → ReadsWhole on texts h width a → ⊥
  no_whole other (constant u) r = r
  no_whole other (whole x) r = other (sym (r.3 ∙ ap length (one r.0 r.1)))
  no_whole other (sub x p q) r = r

  pub no_left : (c : List Entry) → ArePlacesAt on c t h.at None → (a : AtomTree) → ReadsBetween on texts h width a → ⊥
  no_left c none (constant u) r = r
  no_left c none (whole x) r = r
  no_left c none (sub x p q) r = none p (r.3.0, subst (λ v. HasValue p v h.at) (one r.0 r.1) r.3.1)

  pub no_right : (c : List Entry) → ArePlacesAt on c t (h.at + width) None → (a : AtomTree) → ReadsBetween on texts h width a → ⊥
  no_right c none (constant u) r = r
  no_right c none (whole x) r = r
  no_right c none (sub x p q) r = none q (r.4.0, subst (λ v. HasValue q v (h.at + width)) (one r.0 r.1) r.4.1)

  -- no source gives the spot's text
  pub no_reader : (none : (x : SourceTree) → ¬ (Gives on t x)) → (a : AtomTree) → ReadsSpot on texts h width a → ⊥
  no_reader none (constant u) r = elim r [ inl f ↦ f | inr f ↦ f ]
  no_reader none (whole x) r = elim r [ inl f ↦ none x (subst (λ v. Gives on v x) (one f.0 f.1) f.2) | inr f ↦ f ]
  no_reader none (sub x p q) r = elim r [ inl f ↦ f | inr f ↦ none x (subst (λ v. Gives on v x) (one f.0 f.1) f.2) ]

  module _ (c : List Entry) (s : ℕ) (sources : Lasts c (λ d. AreSourcesOf on d t s)) where
    older_set : (d : List Entry) → Extends c d → OlderSources d (length d) s
    older_set d o = let is = (sources d o).0 in (is, slice_get_within d s (kind.Sources is.0) is.1)

    whole_fits : length t ≡ width → (d : List Entry) → Extends c d → (a : AtomTree) → AtomFits a d (Whole s) ↔ ReadsWhole on texts h width a
    whole_fits e d o (constant u) = (λ f. f, λ r. r)
    whole_fits e d o (whole x) = (
      λ f. (t, at, ((sources d o).1 x).0 f, sym e),
      λ r. ((sources d o).1 x).1 (subst (λ v. Gives on v x) (one r.0 r.1) r.2),
    )
    whole_fits e d o (sub x p q) = (λ f. f, λ r. r)

    pub puts_whole : (items new : List AtomItem) → length t ≡ width → new ≡ items ++ Whole s ∷ [] → AddsAtoms c items new (ReadsWhole on texts h width)
    puts_whole items new e is = puts_one IsOldAtom AtomFits c items new (Whole s) (ReadsWhole on texts h width) is older_set (whole_fits e)

    module _ (left right : ℕ) (lefts : Lasts c (λ d. ArePlacesAt on d t h.at (Some left))) (rights : Lasts c (λ d. ArePlacesAt on d t (h.at + width) (Some right))) where
      between_is : (d : List Entry) → Extends c d → IsOldAtom d (Sub s left right)
      between_is d o =
          let l = (lefts d o).0 in
          let r = (rights d o).0 in
          (older_set d o, (l, slice_get_within d left (kind.Places l.0) l.1), (r, slice_get_within d right (kind.Places r.0) r.1))

      between_fits : (d : List Entry) → Extends c d → (a : AtomTree) → AtomFits a d (Sub s left right) ↔ ReadsBetween on texts h width a
      between_fits d o (constant u) = (λ f. f, λ r. r)
      between_fits d o (whole x) = (λ f. f, λ r. r)
      between_fits d o (sub x p q) = (
        λ f. (t, at, ((sources d o).1 x).0 f.0, ((lefts d o).1 p).0 f.1, ((rights d o).1 q).0 f.2),
        λ r. (
          ((sources d o).1 x).1 (subst (λ v. Gives on v x) (one r.0 r.1) r.2),
          ((lefts d o).1 p).1 (subst (λ v. IsPlaceOf on.settings.profile.tokens p × HasValue p v h.at) (one r.0 r.1) r.3),
          ((rights d o).1 q).1 (subst (λ v. IsPlaceOf on.settings.profile.tokens q × HasValue q v (h.at + width)) (one r.0 r.1) r.4),
        ),
      )

      pub puts_between : (items new : List AtomItem) → new ≡ items ++ Sub s left right ∷ [] → AddsAtoms c items new (ReadsBetween on texts h width)
      puts_between items new is = puts_one IsOldAtom AtomFits c items new (Sub s left right) (ReadsBetween on texts h width) is between_is between_fits

-- one spot more
pub readers_start : (on : OnRow) (texts : List (List ℕ)) (spots : List Spot) (width : ℕ) (c : List Entry) (items : List AtomItem) → AddsAtoms c items items (ReadsFirst on texts spots 0 width)
readers_start on texts spots width c items = puts_none IsOldAtom AtomFits c items (ReadsFirst on texts spots 0 width) (λ a r. let lt = r.2 in absurd (omega arith))

pub readers_more : (on : OnRow) (texts : List (List ℕ)) (spots : List Spot) (width n : ℕ) (h : Spot) → slice_get spots n ≡ Some h → (c d : List Entry) → Extends c d → (old mid new : List AtomItem) →
    AddsAtoms c old mid (ReadsFirst on texts spots n width) → AddsAtoms d mid new (ReadsSpot on texts h width) → AddsAtoms d old new (ReadsFirst on texts spots (n + 1) width)
readers_more on texts spots width n h at c d o old mid new f g =
    puts_then IsOldAtom AtomFits c d o old mid new (ReadsFirst on texts spots n width) (ReadsSpot on texts h width) (ReadsFirst on texts spots (n + 1) width) f g
    (λ a. (
      λ r. elim (cases_lt r.0 n) [
        | inl lt ↦ inl (r.0, r.1, lt, r.3, r.4)
        | inr le ↦ let up = r.2 in let e : r.0 ≡ n = omega arith in inr (subst (λ (z : Spot). ReadsSpot on texts z width a) (same_at spots r.0 n r.1 h e r.3 at) r.4)
      ],
      λ p. elim p [
        | inl r ↦ let lt = r.2 in (r.0, r.1, omega arith, r.3, r.4)
        | inr r ↦ (n, h, omega arith, at, r)
      ],
    ))

-- one origin more
module _ (on : OnRow) (v : List ℕ) (origins : List Origin) where
  pub gives_start : (c : List Entry) (items : List SourceItem) → AddsSources c items items (GivesFirst on v origins 0)
  gives_start c items = puts_none IsOldSource SourceFits c items (GivesFirst on v origins 0) (λ x r. let lt = r.2 in absurd (omega arith))

  pub gives_more : (n : ℕ) (p : Origin) → slice_get origins n ≡ Some p → (c d : List Entry) → Extends c d → (old mid new : List SourceItem) →
      AddsSources c old mid (GivesFirst on v origins n) → AddsSources d mid new (λ x. Reads on p x × Gives on v x) → AddsSources d old new (GivesFirst on v origins (n + 1))
  gives_more n p at c d o old mid new f g =
      puts_then IsOldSource SourceFits c d o old mid new (GivesFirst on v origins n) (λ x. Reads on p x × Gives on v x) (GivesFirst on v origins (n + 1)) f g
      (λ x. (
        λ r. elim (cases_lt r.0 n) [
          | inl lt ↦ inl (r.0, r.1, lt, r.3, r.4)
          | inr le ↦ let up = r.2 in let e : r.0 ≡ n = omega arith in inr (subst (λ (z : Origin). Reads on z x × Gives on v x) (same_at origins r.0 n r.1 p e r.3 at) r.4)
        ],
        λ q. elim q [
          | inl r ↦ let lt = r.2 in (r.0, r.1, omega arith, r.3, r.4)
          | inr r ↦ (n, p, omega arith, at, r)
        ],
      ))

-- all that a text comes from
pub gives_all : (on : OnRow) (t : Texts) (are : AreTexts on t) (d : ℕ) → d ≤ on.settings.depth → (k : ℕ) (m : Named) → slice_get t.named.items k ≡ Some m → (n : ℕ) → length m.origins ≤ n → (c : List Entry) (old new : List SourceItem) →
    AddsSources c old new (GivesFirst (at_depth on d) m.text.now m.origins n) → AddsSources c old new (Gives (at_depth on d) m.text.now)
gives_all on t are d le k m at n all c old new f =
    puts_alike IsOldSource SourceFits c old new (GivesFirst (at_depth on d) m.text.now m.origins n) (Gives (at_depth on d) m.text.now) f
    (λ x. (
      λ g.
          let o = origin_of on are.least d le m.text.now x g in
          let there = origin_in on t are k m at o.0 o.1 in
          let lt = slice_get_within m.origins there.0 o.0 there.1 in
          (there.0, o.0, omega arith, there.1, (o.2, g)),
      λ r. r.4.1,
    ))

-- the column of a cell
column_fits : (on : OnRow) (v : List ℕ) (column : ℕ) → ((x : SourceTree) → x ≡ col column → Gives on v x) → (d : List Entry) (x : SourceTree) → SourceFits x d (item.Col column) ↔ (Reads on (origin.Col column) x × Gives on v x)
column_fits on v column given d (col n) = (
  λ f. (sym f, given (col n) (ap col (sym f))),
  λ g. sym g.0,
)
column_fits on v column given d (select n table key cs) = (λ f. absurd f, λ g. absurd g.0)

pub puts_column : (on : OnRow) (d : ℕ) (v : List ℕ) (column : ℕ) → IsOrigin on v (origin.Col column) → (c : List Entry) (items new : List SourceItem) → new ≡ items ++ item.Col column ∷ [] →
    AddsSources c items new (λ x. Reads on (origin.Col column) x × Gives (at_depth on d) v x)
puts_column on d v column h c items new is =
    puts_one IsOldSource SourceFits c items new (item.Col column) (λ x. Reads on (origin.Col column) x × Gives (at_depth on d) v x) is
    (λ e o. tt)
    (λ e o x. column_fits (at_depth on d) v column (λ y same. subst (λ (z : SourceTree). Gives (at_depth on d) v z) (sym same) (record { source = (h.0, h.1); shallow = omega arith; value = h.2 })) e x)
