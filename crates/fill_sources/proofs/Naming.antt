-- Texts, each once, as one is put to them.
use Rattle.std.proofs.Common.{◌≡◌, ◌⊎◌, ℕ, inl, inr, Bool, true, false, cond, List, [], ◌∷◌, ◌++◌, length, None, Some, slice_get, slice_set, refl, sym, ap, ◌∙◌, subst}
use Rattle.std.specs.Str.{bytes_eq}
use Rattle.std.proofs.lemmas.Bool.{cases_eq}
use Rattle.std.proofs.lemmas.Option.{slice_get_within}
use Rattle.std.proofs.lemmas.Slice.Eq.{bytes_eq-Decides}
use Rattle.fill_arena.specs.Contents.{In}
use Rattle.fill_arena.proofs.Lists.{get_left, get_last, get_pushed}
use Rattle.fill_sources.specs.Origins.{AreNumbered, Grown, number_in}
use Rattle.fill_sources.specs.declared.texts.Named.{Named}
use Rattle.fill_sources.specs.declared.texts.Origin.{Origin}
use Rattle.fill_sources.specs.declared.texts.Texts.{Texts}
use Rattle.fill_sources.proofs.Lists.{each_pushed, in_empty, in_last, in_more, in_pushed, set_here, set_other}

pub same_text : (v w : List ℕ) → bytes_eq v w ≡ true → v ≡ w
same_text v w h = (bytes_eq-Decides v w).0 h

text_same : (v w : List ℕ) → v ≡ w → bytes_eq v w ≡ true
text_same v w h = (bytes_eq-Decides v w).1 h

-- no texts
pub none_named : (t : Texts) → t.named.items ≡ [] → ((v : List ℕ) → number_in t v ≡ None) → AreNumbered t
none_named t empty none = record {
  right = λ k n h. absurd (in_empty n (k, subst (λ (l : List Named). slice_get l k ≡ Some n) empty h));
  there = λ v k h. absurd (let e : None ≡ Some k = sym (none v) ∙ h in cc);
  some = λ k n h. absurd (in_empty n (k, subst (λ (l : List Named). slice_get l k ≡ Some n) empty h));
}

-- one of the texts comes from somewhere more
module _ (named : List Named) (k : ℕ) (n : Named) (at : slice_get named k ≡ Some n) (o : Origin) where
  abbrev pub fuller : Named
  fuller = record n { origins = n.origins ++ o ∷ [] }

  abbrev pub after : List Named
  after = slice_set named k fuller

  read_after : (i : ℕ) (m : Named) → slice_get after i ≡ Some m → ((i ≡ k) × (fuller ≡ m)) ⊎ (slice_get named i ≡ Some m)
  read_after i m h = elim (cases_eq i k) [
    | inl e ↦
        let p : Some fuller ≡ Some m = sym (set_here named k n fuller at) ∙ subst (λ j. slice_get after j ≡ Some m) e h in
        inl (e, cc)
    | inr other ↦ inr (sym (set_other named k i fuller other) ∙ h)
  ]

  read_before : (i : ℕ) (m : Named) → slice_get named i ≡ Some m → (l : Named) × (slice_get after i ≡ Some l) × (l.text.now ≡ m.text.now) × ((p : Origin) → In p m.origins → In p l.origins)
  read_before i m h = elim (cases_eq i k) [
    | inl e ↦
        let p : Some n ≡ Some m = sym at ∙ subst (λ j. slice_get named j ≡ Some m) e h in
        let same : n ≡ m = cc in (
          fuller,
          subst (λ j. slice_get after j ≡ Some fuller) (sym e) (set_here named k n fuller at),
          ap (λ (z : Named). z.text.now) same,
          λ q there. in_more n.origins o q (subst (λ (z : Named). In q z.origins) (sym same) there),
        )
    | inr other ↦ (m, set_other named k i fuller other ∙ h, refl, λ q there. there)
  ]

  pub grown_old : Grown named after (λ v p. (v ≡ n.text.now) × (p ≡ o))
  grown_old v p = (
    λ h. elim (read_after h.1.0 h.0 h.1.1) [
      | inl e ↦
          let there : (n.text.now ≡ v) × In p (n.origins ++ o ∷ []) = subst (λ (z : Named). (z.text.now ≡ v) × In p z.origins) (sym e.1) h.2 in
          elim (in_pushed n.origins o p there.1) [
            | inl i ↦ inl (n, (k, at), (there.0, i))
            | inr same ↦ inr (sym there.0, sym same)
          ]
      | inr e ↦ inl (h.0, (h.1.0, e), h.2)
    ],
    λ h. elim h [
      | inl old ↦
          let b = read_before old.1.0 old.0 old.1.1 in
          (b.0, (old.1.0, b.1), (b.2 ∙ old.2.0, b.3 p old.2.1))
      | inr q ↦ (fuller, (k, set_here named k n fuller at), (sym q.0, subst (λ (z : Origin). In z (n.origins ++ o ∷ [])) (sym q.1) (in_last n.origins o)))
    ],
  )

pub numbered_old : (t u : Texts) (k : ℕ) (n : Named) (at : slice_get t.named.items k ≡ Some n) (o : Origin) → AreNumbered t → u.named.items ≡ after t.named.items k n at o
    → ((v : List ℕ) → number_in u v ≡ number_in t v) → AreNumbered u
numbered_old t u k n at o h is same = record {
  right = λ i m e. elim (read_after t.named.items k n at o i m (subst (λ (l : List Named). slice_get l i ≡ Some m) is e)) [
    | inl p ↦
        let old : number_in t n.text.now ≡ Some k = h.right k n at in
        subst (λ (z : Named). number_in u z.text.now ≡ Some i) p.1 (same n.text.now ∙ old ∙ ap Some (sym p.0))
    | inr p ↦ same m.text.now ∙ h.right i m p
  ];
  there = λ v i e.
      let old = h.there v i (sym (same v) ∙ e) in
      let b = read_before t.named.items k n at o i old.0 old.1 in
      (b.0, subst (λ (l : List Named). slice_get l i ≡ Some b.0) (sym is) b.1, b.2 ∙ old.2);
  some = λ i m e. elim (read_after t.named.items k n at o i m (subst (λ (l : List Named). slice_get l i ≡ Some m) is e)) [
    | inl p ↦ subst (λ (z : Named). (q : Origin) × In q z.origins) p.1 (o, in_last n.origins o)
    | inr p ↦ h.some i m p
  ];
}

-- a text more
pub grown_new : (named new : List Named) (n : Named) (w : List ℕ) (o : Origin) → new ≡ named ++ n ∷ [] → n.text.now ≡ w → n.origins ≡ o ∷ [] → Grown named new (λ v p. (v ≡ w) × (p ≡ o))
grown_new named new n w o is named_so from v p = (
  λ h. elim (in_pushed named n h.0 (subst (λ (l : List Named). In h.0 l) is h.1)) [
    | inl i ↦ inl (h.0, i, h.2)
    | inr same ↦
        let there : (n.text.now ≡ v) × In p n.origins = subst (λ (z : Named). (z.text.now ≡ v) × In p z.origins) (sym same) h.2 in
        let only : In p ([] ++ o ∷ []) = subst (λ (l : List Origin). In p l) from there.1 in
        inr (sym there.0 ∙ named_so, elim (in_pushed [] o p only) [ inl i ↦ absurd (in_empty p i) | inr e ↦ sym e ])
  ],
  λ h. elim h [
    | inl old ↦ (old.0, subst (λ (l : List Named). In old.0 l) (sym is) (in_more named n old.0 old.1), old.2)
    | inr q ↦ (
      n,
      subst (λ (l : List Named). In n l) (sym is) (in_last named n),
      (named_so ∙ sym q.0, subst (λ (l : List Origin). In p l) (sym from) (subst (λ (z : Origin). In z (o ∷ [])) (sym q.1) (0, refl))),
    )
  ],
)

module _ (t u : Texts) (n : Named) (w : List ℕ) (o : Origin) (h : AreNumbered t) (is : u.named.items ≡ t.named.items ++ n ∷ []) (named_so : n.text.now ≡ w) (from : n.origins ≡ o ∷ [])
    (fresh : number_in t w ≡ None) (numbers : (v : List ℕ) → number_in u v ≡ cond (bytes_eq w v) (Some (length t.named.items)) (number_in t v)) where
  other_number : (v : List ℕ) (k : ℕ) → number_in t v ≡ Some k → (b : Bool) → bytes_eq w v ≡ b → number_in u v ≡ cond b (Some (length t.named.items)) (number_in t v) → number_in u v ≡ Some k
  other_number v k e true same is = absurd (let p : None ≡ Some k = sym fresh ∙ subst (λ x. number_in t x ≡ Some k) (sym (same_text w v same)) e in cc)
  other_number v k e false same is = is ∙ e

  own_number : (b : Bool) → bytes_eq w w ≡ b → number_in u w ≡ cond b (Some (length t.named.items)) (number_in t w) → number_in u w ≡ Some (length t.named.items)
  own_number true e is = is
  own_number false e is = absurd (let p : true ≡ false = sym (text_same w w refl) ∙ e in cc)

  number_there : (v : List ℕ) (k : ℕ) → number_in u v ≡ Some k → (b : Bool) → bytes_eq w v ≡ b → number_in u v ≡ cond b (Some (length t.named.items)) (number_in t v)
      → (m : Named) × (slice_get (t.named.items ++ n ∷ []) k ≡ Some m) × (m.text.now ≡ v)
  number_there v k e true same is =
      let p : Some (length t.named.items) ≡ Some k = sym is ∙ e in
      let last : length t.named.items ≡ k = cc in
      (n, subst (λ i. slice_get (t.named.items ++ n ∷ []) i ≡ Some n) last (get_last t.named.items n), named_so ∙ same_text w v same)
  number_there v k e false same is =
      let old = h.there v k (sym is ∙ e) in
      (old.0, get_left t.named.items (n ∷ []) k (slice_get_within t.named.items k old.0 old.1) ∙ old.1, old.2)

  pub numbered_new : AreNumbered u
  numbered_new = record {
    right = λ k m e. elim (get_pushed t.named.items n k m (subst (λ (l : List Named). slice_get l k ≡ Some m) is e)) [
      | inl p ↦ other_number m.text.now k (h.right k m p.1) (bytes_eq w m.text.now) refl (numbers m.text.now)
      | inr p ↦
          let own : number_in u w ≡ Some (length t.named.items) = own_number (bytes_eq w w) refl (numbers w) in
          subst (λ (z : Named). number_in u z.text.now ≡ Some k) p.1 (subst (λ v. number_in u v ≡ Some k) (sym named_so) (own ∙ ap Some (sym p.0)))
    ];
    there = λ v k e.
        let there = number_there v k e (bytes_eq w v) refl (numbers v) in
        (there.0, subst (λ (l : List Named). slice_get l k ≡ Some there.0) (sym is) there.1, there.2);
    some = λ k m e. each_pushed (λ (z : Named). (q : Origin) × In q z.origins) t.named.items n h.some (o, subst (λ (l : List Origin). In o l) (sym from) (0, refl)) k m
        (subst (λ (l : List Named). slice_get l k ≡ Some m) is e);
  }
