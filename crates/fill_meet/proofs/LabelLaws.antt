-- Numbers of sets.
use Rattle.std.proofs.Common.{◌≡◌, ℕ, ◌+◌, ◌<◌, inl, inr, List, [], ◌∷◌, ◌++◌, length, Some, slice_get, refl, sym, ap, ◌∙◌, subst, arith}
use Rattle.std.proofs.lemmas.Bool.{cases_lt}
use Rattle.std.proofs.lemmas.Option.{slice_get_within}
use Rattle.fill_arena.specs.Contents.{EachIn, SomeIn}
use Rattle.fill_arena.specs.declared.entry.Edge.{Edge}
use Rattle.fill_arena.proofs.Lists.{get_left, get_last, get_pushed, get_there}
use Rattle.fill_meet.specs.Labels.{AreLabels, IsNumber, IsNumbered}
use Rattle.fill_meet.specs.Runs.{Grows}
use Rattle.fill_meet.specs.declared.labels.Labels.{Labels}
use Rattle.fill_meet.proofs.Grown.{grows_pushed, grows_same}
use Rattle.fill_meet.proofs.Lists.{length_pushed, same_value}

pub numbered_is : (old new : List ℕ) (s n : ℕ) → IsNumbered old new s n → IsNumber new s n
numbered_is old new s n h = elim h [
  | inl e ↦ subst (λ l. IsNumber l s n) (sym e.0) e.1
  | inr e ↦ subst (λ l. IsNumber l s n) (sym e.0) (subst (IsNumber (old ++ s ∷ []) s) (sym e.1) (get_last old s))
]

pub numbered_grows : (old new : List ℕ) (s n : ℕ) → IsNumbered old new s n → Grows old new
numbered_grows old new s n h = elim h [
  | inl e ↦ subst (Grows old) (sym e.0) (grows_same old)
  | inr e ↦ subst (Grows old) (sym e.0) (grows_pushed old s)
]

-- what each set has, the new one too
pub numbered_each : (P : ℕ → Type 0) (old new : List ℕ) (s n : ℕ) → IsNumbered old new s n → P s → EachIn P old → EachIn P new
numbered_each P old new s n h p all = elim h [
  | inl e ↦ subst (EachIn P) (sym e.0) all
  | inr e ↦ subst (EachIn P) (sym e.0) (λ k t at. elim (get_pushed old s k t at) [ inl q ↦ all k t q.1 | inr q ↦ subst P q.1 p ])
]

-- the labels of the edges before the place k
pub record LabelsTo (edges : List Edge) (k : ℕ) (sets of : List ℕ) : Type 0 where
  pub long : length of ≡ k
  pub each : (a : ℕ) (e : Edge) → a < k → slice_get edges a ≡ Some e → (n : ℕ) × (slice_get of a ≡ Some n) × IsNumber sets e.atoms n
  pub real : EachIn (λ s. SomeIn (λ e. e.atoms ≡ s) edges) sets

pub labels_start : (edges : List Edge) (sets of : List ℕ) → sets ≡ [] → of ≡ [] → LabelsTo edges 0 sets of
labels_start edges sets of es eo =
    record {
      long = ap length eo;
      each = λ a e lt. absurd (omega arith);
      real = subst (EachIn (λ s. SomeIn (λ e. e.atoms ≡ s) edges)) (sym es) (λ k s at. absurd cc);
    }

pub labels_more : (edges : List Edge) (k : ℕ) (e : Edge) (sets of more next : List ℕ) (n : ℕ) → slice_get edges k ≡ Some e → next ≡ of ++ n ∷ [] → IsNumbered sets more e.atoms n → LabelsTo edges k sets of → LabelsTo edges (k + 1) more next
labels_more edges k e sets of more next n he en numbered to =
    let grown = numbered_grows sets more e.atoms n numbered in
    record {
      long = length_pushed of next n k en to.long;
      each = λ a f lt hf. elim (cases_lt a k) [
        | inl less ↦
            let old = to.each a f less hf in
            let within = slice_get_within of a old.0 old.1 in
            (old.0, subst (λ l. slice_get l a ≡ Some old.0) (sym en) (get_left of (n ∷ []) a within ∙ old.1), grown.extends old.0 f.atoms old.2)
        | inr past ↦
            let here : k ≡ a = omega arith in
            let same : e ≡ f = same_value edges k a e f here he hf in
            let at : slice_get (of ++ n ∷ []) a ≡ Some n = subst (λ m. slice_get (of ++ n ∷ []) m ≡ Some n) (to.long ∙ here) (get_last of n) in
            (n, subst (λ l. slice_get l a ≡ Some n) (sym en) at, subst (λ z. IsNumber more z.atoms n) same (numbered_is sets more e.atoms n numbered))
      ];
      real = numbered_each (λ s. SomeIn (λ f. f.atoms ≡ s) edges) sets more e.atoms n numbered (e, (k, he), refl) to.real;
    }

pub labels_end : (edges : List Edge) (k : ℕ) (l : Labels) → length edges ≡ k → LabelsTo edges k l.sets.items l.of.items → AreLabels edges l
labels_end edges k l long to =
    record {
      long = to.long ∙ sym long;
      each = λ a e he.
          (let within = slice_get_within edges a e he in
          let got = to.each a e (subst (λ n. a < n) long within) he in
          record { number = got.0; at = got.1; set = got.2 });
      real = to.real;
    }

-- sets of edges are what the edges' sets are
pub labels_sets : (P : ℕ → Type 0) (edges : List Edge) (l : Labels) → AreLabels edges l → EachIn (λ e. P e.atoms) edges → EachIn P l.sets.items
labels_sets P edges l are all = λ k s at. (let e = are.real k s at in subst P e.2 (all e.1.0 e.0 e.1.1))

-- the labels are within the numbers of sets
pub labels_within : (edges : List Edge) (l : Labels) → AreLabels edges l → EachIn (λ n. n < length l.sets.items) l.of.items
labels_within edges l are = λ k n at.
    let within = slice_get_within l.of.items k n at in
    let e = get_there edges k (subst (λ m. k < m) are.long within) in
    let label = are.each k e.0 e.1 in
    let same : label.number ≡ n = same_value l.of.items k k label.number n refl label.at at in
    subst (λ m. m < length l.sets.items) same (slice_get_within l.sets.items label.number e.0.atoms label.set)

-- the label of an edge
pub labels_label : (edges : List Edge) (l : Labels) → AreLabels edges l → (k : ℕ) (e : Edge) → slice_get edges k ≡ Some e → (n : ℕ) × (slice_get l.of.items k ≡ Some n) × (slice_get l.sets.items n ≡ Some e.atoms)
labels_label edges l are k e at = let h = are.each k e at in (h.number, h.at, h.set)
