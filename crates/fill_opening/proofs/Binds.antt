-- Steps and further steps, seen from the whole.
use Rattle.std.proofs.Common.{◌≡◌, ℕ, ◌≤◌, List, ◌⊎◌, inl, inr, None, Some, refl, sym, ap, ◌∙◌, arith, subst}
use Rattle.std.specs.Prelude.{Contains, string_bytes}
use Rattle.std.proofs.lemmas.List.Elements.{Contains-append_left, Contains-append_right}
use Rattle.fill_edge.specs.Outside.{Files, Rose, NoneFell}
use Rattle.fill_opening.specs.Opened.{Held, Told, Opened, Opening, Unread, Refused, Passed, further, and_then}
use Rattle.fill_opening.specs.Stops.{Counts, Stops, Refuses, IsUnread, ReadFails}
use Rattle.fill_opening.specs.declared.stop.Stop.{Stop}
use Rattle.fill_opening.specs.declared.stop.Stop.TheVariants as stop

pub told_both : (files : Files) (P Q R : Held → Type 0) → ((held : Held) → P held → Q held → R held) → Told files P → Told files Q → Told files R
told_both None P Q R f p q = tt
told_both (Some held) P Q R f p q = f held p q

pub told_one : (files : Files) (P Q : Held → Type 0) → ((held : Held) → P held → Q held) → Told files P → Told files Q
told_one None P Q f p = tt
told_one (Some held) P Q f p = f held p

-- the whole goes on as the rest, and reads at least what that reads
pub record Continues {R A : Type 0} (whole rest : Opening R A) : Type 0 where
  pub same : whole.outcome ≡ rest.outcome
  pub reads : (name : List ℕ) → Contains rest.reads name → Contains whole.reads name

pub continues_itself : {R A : Type 0} (o : Opening R A) → Continues o o
continues_itself o = record { same = refl; reads = λ name c. c }

pub continues_both : {R A : Type 0} (a b c : Opening R A) → Continues a b → Continues b c → Continues a c
continues_both a b c h k = record { same = h.same ∙ k.same; reads = λ name r. h.reads name (k.reads name r) }

rose_earlier : (a b c : ℕ) → a ≤ b → Rose b c → Rose a c
rose_earlier a b c le r = omega arith

module _ {R A : Type 0} (whole rest : Held → Opening R A) (before mid now : Counts) (fell : NoneFell before mid) where
  unread_later : (files : Files) (name : List ℕ) → Told files (λ held. Continues (whole held) (rest held))
      → IsUnread rest files name ⊎ ReadFails rest files mid now name → IsUnread whole files name ⊎ ReadFails whole files before now name
  unread_later None name goes (inl u) = absurd u
  unread_later None name goes (inr r) = inr (rose_earlier _ _ _ (fell name) r)
  unread_later (Some held) name goes (inl u) = inl (goes.same ∙ u)
  unread_later (Some held) name goes (inr r) = inr (goes.reads name r.0, rose_earlier _ _ _ (fell name) r.1)

  -- what stops later steps stops the whole
  pub stops_later : (files : Files) (why : Stop R) → Told files (λ held. Continues (whole held) (rest held)) → Stops rest files mid now why → Stops whole files before now why
  stops_later files (stop.Unread name) goes s = unread_later files (string_bytes name) goes s
  stops_later files (stop.Refused r) goes s = told_both files _ _ _ (λ held g e. g.same ∙ e) goes s
  stops_later files stop.NoMemory goes s = s

module _ {R A B : Type 0} (rest : A → Opening R B) (first : Opening R A) where
  -- where the first steps pass, the whole goes on as the further ones
  pub goes_on : (x : A) → first.outcome ≡ Passed x → Continues (and_then first rest) (rest x)
  goes_on x e =
      let same : further rest first.outcome ≡ rest x = ap (further rest) e in
      record {
        same = ap (λ (o : Opening R B). o.outcome) same;
        reads = λ name c. Contains-append_right first.reads (further rest first.outcome).reads name (subst (λ (o : Opening R B). Contains o.reads name) (sym same) c);
      }

  -- where they end, so does the whole
  pub unread_first : (name : List ℕ) → first.outcome ≡ Unread name → (and_then first rest).outcome ≡ Unread name
  unread_first name e = ap (λ (o : Opened R A). (further rest o).outcome) e

  pub refused_first : (r : R) → first.outcome ≡ Refused r → (and_then first rest).outcome ≡ Refused r
  refused_first r e = ap (λ (o : Opened R A). (further rest o).outcome) e

  reads_first : (name : List ℕ) → Contains first.reads name → Contains (and_then first rest).reads name
  reads_first name c = Contains-append_left first.reads (further rest first.outcome).reads name c

module _ {R A B : Type 0} (first : Held → Opening R A) (rest : Held → A → Opening R B) (before now : Counts) where
  unread_whole : (files : Files) (name : List ℕ) → IsUnread first files name ⊎ ReadFails first files before now name
      → IsUnread (λ held. and_then (first held) (rest held)) files name ⊎ ReadFails (λ held. and_then (first held) (rest held)) files before now name
  unread_whole None name (inl u) = absurd u
  unread_whole None name (inr r) = inr r
  unread_whole (Some held) name (inl u) = inl (unread_first (rest held) (first held) name u)
  unread_whole (Some held) name (inr r) = inr (reads_first (rest held) (first held) name r.0, r.1)

  -- what stops the first steps stops the whole
  pub stops_first : (files : Files) (why : Stop R) → Stops first files before now why → Stops (λ held. and_then (first held) (rest held)) files before now why
  stops_first files (stop.Unread name) s = unread_whole files (string_bytes name) s
  stops_first files (stop.Refused r) s = told_one files _ _ (λ held e. refused_first (rest held) (first held) r e) s
  stops_first files stop.NoMemory s = s

module _ {R A B : Type 0} (files : Files) (first : Held → Opening R A) (rest : Held → A → Opening R B) (x : A) (passed : Told files (λ held. (first held).outcome ≡ Passed x)) where
  -- the first steps passed, and so the whole goes on
  pub all_go_on : Told files (λ held. Continues (and_then (first held) (rest held)) (rest held x))
  all_go_on = told_one files _ _ (λ held e. goes_on (rest held) (first held) x e) passed

  -- and ends as the further steps do
  pub all_end : (o : Opened R B) → Told files (λ held. (rest held x).outcome ≡ o) → Told files (λ held. (and_then (first held) (rest held)).outcome ≡ o)
  all_end o h = told_both files _ _ _ (λ held e k. (goes_on (rest held) (first held) x e).same ∙ k) passed h

  -- what a check of bytes refuses stops the whole
  pub refused_later : (o : Opened R B) (before now : Counts) (why : Stop R) → Told files (λ held. (rest held x).outcome ≡ o) → Refuses o why → Stops (λ held. and_then (first held) (rest held)) files before now why
  refused_later o before now (stop.Unread name) h r = absurd r
  refused_later o before now (stop.Refused w) h r = told_one files _ _ (λ held e. e ∙ r) (all_end o h)
  refused_later o before now stop.NoMemory h r = r

-- counts that fell at no step fell at none of two
pub none_fell_both : (a b c : Counts) → NoneFell a b → NoneFell b c → NoneFell a c
none_fell_both a b c h k name = let first = h name in let second = k name in omega arith
