-- Entries, one after the other.
use Rattle.std.proofs.Common.{◌≡◌, ◌↔◌, ℕ, ◌+◌, ◌≤◌, List, [], ◌∷◌, ◌++◌, Bool, true, false, Option, Err, inl, inr, sym, ap, ◌∙◌, refl, subst, arith, append_assoc, append-nil, add_assoc}
use Rattle.std.proofs.Math.Nat.{add-zero, zero-add}
use Rattle.std.proofs.lemmas.Bool.{false≢true}
use Rattle.std.specs.Prelude.{IsTrue, ◌||◌}
use Rattle.std.proofs.KnownBytes.{Appends-nil}
use Rattle.fill_script.specs.declared.script.Entry.{Entry}
use Rattle.fill_space.specs.declared.ground.Ground.{Ground}
use Rattle.fill_session.specs.Timeline.{Timeline}
use Rattle.fill_report.specs.Entries.{EntryBegins, EntryWrites}
use Rattle.fill_report.specs.Output.{Leaves, Writes}
use Rattle.fill_report.specs.Report.{EntriesBegin, EntriesWrite}
use Rattle.fill_report.specs.Runs.{Begins, Runs, Written, followed, nothing}
use Rattle.fill_output.specs.declared.halt.Halt.{Halt}
use Rattle.fill_output.specs.declared.halt.Halt.TheVariants as halt
use Rattle.fill_output.proofs.Bytes.{appends_then, part_then}
use Rattle.fill_report.proofs.Leaving.{none_refused}

followed_assoc : (a b c : Written) → followed (followed a b) c ≡ followed a (followed b c)
followed_assoc a b c = λ i. record {
  records = append_assoc a.records b.records c.records i;
  refused = add_assoc a.refused b.refused c.refused i;
  term = add_assoc a.term b.term c.term i;
}

followed_nothing : (w : Written) → followed w nothing ≡ w
followed_nothing w = λ i. record { records = append-nil w.records i; refused = add-zero w.refused i; term = add-zero w.term i }

nothing_followed : (w : Written) → followed nothing w ≡ w
nothing_followed w = λ i. record { records = w.records; refused = zero-add w.refused i; term = zero-add w.term i }

module _ {S : Type 0} (step : S → Entry → Written → S → Type 0) (begin : S → Entry → Written → Type 0) where
  pub runs_append : (s mid last : S) (xs ys : List Entry) (w v : Written) → Runs step s xs w mid → Runs step mid ys v last → Runs step s (xs ++ ys) (followed w v) last
  runs_append s mid last [] ys w v a b =
      subst (λ (u : Written). Runs step s ys u last) (sym (ap (λ (x : Written). followed x v) a.0 ∙ nothing_followed v)) (subst (λ (t : S). Runs step t ys v last) a.1 b)
  runs_append s mid last (e ∷ xs) ys w v a b =
      (a.0, a.1, followed a.2 v, a.3, runs_append a.1 mid last xs ys a.2 v a.4 b, ap (λ (x : Written). followed x v) a.5 ∙ followed_assoc a.0 a.2 v)

  -- what begins stays a beginning before more entries
  pub begins_before : (s : S) (xs ys : List Entry) (w : Written) → Begins step begin s xs w → Begins step begin s (xs ++ ys) w
  begins_before s [] ys w h = absurd h
  begins_before s (e ∷ xs) ys w (inl b) = inl b
  begins_before s (e ∷ xs) ys w (inr r) = inr (r.0, r.1, r.2, r.3, begins_before r.1 xs ys r.2 r.4, r.5)

  pub begins_after : (s mid : S) (xs ys : List Entry) (w v : Written) → Runs step s xs w mid → Begins step begin mid ys v → Begins step begin s (xs ++ ys) (followed w v)
  begins_after s mid [] ys w v a b =
      subst (λ (u : Written). Begins step begin s ys u) (sym (ap (λ (x : Written). followed x v) a.0 ∙ nothing_followed v)) (subst (λ (t : S). Begins step begin t ys v) a.1 b)
  begins_after s mid (e ∷ xs) ys w v a b =
      inr (a.0, a.1, followed a.2 v, a.3, begins_after a.1 mid xs ys a.2 v a.4 b, ap (λ (x : Written). followed x v) a.5 ∙ followed_assoc a.0 a.2 v)

  pub runs_one : (s next : S) (e : Entry) (w : Written) → step s e w next → Runs step s (e ∷ []) w next
  runs_one s next e w h = (w, next, nothing, h, (refl, refl), sym (followed_nothing w))

none_of : (m n : ℕ) → (1 ≤ m → ⊥) → (1 ≤ n → ⊥) → 1 ≤ m + n → ⊥
none_of m n a b le = omega arith

-- one of two flags
pub either : (p q flag : Bool) (m n : ℕ) → flag ≡ (p || q) → IsTrue p ↔ (1 ≤ m) → IsTrue q ↔ (1 ≤ n) → IsTrue flag ↔ (1 ≤ m + n)
either true q flag m n e a b = (λ t. let h : 1 ≤ m = a.0 refl in omega arith, λ le. e)
either false true flag m n e a b = (λ t. let h : 1 ≤ n = b.0 refl in omega arith, λ le. e)
either false false flag m n e a b = (
  λ t. absurd (false≢true (sym e ∙ t)),
  λ le. absurd (none_of m n (λ h. false≢true (a.1 h)) (λ h. false≢true (b.1 h)) le),
)

-- what was written of entries up to a state
abbrev pub Wrote : Ground → Timeline → List Entry → Timeline → Bool → Option (List ℕ) → Option (List ℕ) → ℕ → ℕ → Type 0
Wrote g first entries last flag old now before steps = Writes (λ w. EntriesWrite g first entries w last) flag old now before steps

pub wrote_none : (g : Ground) (first : Timeline) (old : Option (List ℕ)) (steps : ℕ) → Wrote g first [] first false old old steps steps
wrote_none g first old steps = (nothing, (refl, refl), Appends-nil old, none_refused false refl, omega arith)

module _ (g : Ground) (first mid : Timeline) (xs : List Entry) (p : Bool) (old half new : Option (List ℕ)) (b0 b1 b2 : ℕ) (so_far : Wrote g first xs mid p old half b0 b1) where
  -- entries, and then others
  pub wrote_then : (last : Timeline) (ys : List Entry) (q flag : Bool) → flag ≡ (p || q) → Wrote g mid ys last q half new b1 b2 → Wrote g first (xs ++ ys) last flag old new b0 b2
  wrote_then last ys q flag e more = (
    followed so_far.0 more.0,
    runs_append (EntryWrites g) (EntryBegins g) first mid last xs ys so_far.0 more.0 so_far.1 more.1,
    appends_then old half new so_far.0.records more.0.records so_far.2 more.2,
    either p q flag so_far.0.refused more.0.refused e so_far.3 more.3,
    omega (arith, so_far.4, more.4),
  )

  -- entries, and then others that stop
  pub stops_then : (W V : Written → Type 0) (ys : List Entry) (why : Halt) → Leaves W (EntriesBegin g mid ys) (Err why) half new b1 b2 → Leaves V (EntriesBegin g first (xs ++ ys)) (Err why) old new b0 b2
  stops_then W V ys halt.Fault more = (
    followed so_far.0 more.0,
    begins_after (EntryWrites g) (EntryBegins g) first mid xs ys so_far.0 more.0 so_far.1 more.1,
    part_then old half new so_far.0.records more.0.records so_far.2 more.2,
    omega (arith, so_far.4, more.3),
  )
  stops_then W V ys halt.NoMemory more = (
    followed so_far.0 more.0,
    begins_after (EntryWrites g) (EntryBegins g) first mid xs ys so_far.0 more.0 so_far.1 more.1,
    appends_then old half new so_far.0.records more.0.records so_far.2 more.2,
    omega (arith, so_far.4, more.3),
  )

-- entries that stop, before others
pub stops_before : (g : Ground) (first : Timeline) (W V : Written → Type 0) (xs ys all : List Entry) (why : Halt) (old new : Option (List ℕ)) (before now : ℕ) → all ≡ xs ++ ys
    → Leaves W (EntriesBegin g first xs) (Err why) old new before now → Leaves V (EntriesBegin g first all) (Err why) old new before now
stops_before g first W V xs ys all halt.Fault old new before now e l =
    (l.0, subst (λ (es : List Entry). EntriesBegin g first es l.0) (sym e) (begins_before (EntryWrites g) (EntryBegins g) first xs ys l.0 l.1), l.2, l.3)
stops_before g first W V xs ys all halt.NoMemory old new before now e l =
    (l.0, subst (λ (es : List Entry). EntriesBegin g first es l.0) (sym e) (begins_before (EntryWrites g) (EntryBegins g) first xs ys l.0 l.1), l.2, l.3)
