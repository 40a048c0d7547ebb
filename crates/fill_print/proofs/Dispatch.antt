-- Which of two rules is read, by the first byte.
use Rattle.std.proofs.Common.{◌≡◌, ℕ, List, [], ◌∷◌, ◌++◌, inl, inr, ap, subst, ◌∙◌}
use Rattle.std.specs.Prelude.{Result, Ok, Err}
use Rattle.std.proofs.lemmas.Bool.{cases_eq}
use Rattle.fill_print.specs.Reading.{SameHead, IsNotNext, Takes, Halts, Then, Plain, Reads}
use Rattle.fill_print.specs.declared.read.error.ReadError.{ReadError}
use Rattle.fill_print.specs.declared.read.error.ReadError.TheVariants.{NoMemory, Bad}
use Rattle.fill_print.proofs.Chains.{OneForm, IsSpelled, IsAt, IsSame, same_takes, same_halts, via, via_halts, both, in_rest, plain_one, plain_takes}

-- what is the same for bytes that don't begin with this one
pub record IsElse {B : Type 0} (R K : B → List ℕ → List ℕ → Type 0) (first : ℕ) : Type 0 where
  pub forth : (b : B) (s k : List ℕ) → K b s k → R b s k
  pub back : (b : B) (s k : List ℕ) → IsNotNext first s → R b s k → K b s k

pub not_at : (c : ℕ) (s x : List ℕ) → IsNotNext c s → s ≡ c ∷ x → ⊥
not_at c [] x h e = let no_such : ⊥ = cc in no_such
not_at c (b ∷ s) x h e = h (let same : b ≡ c = cc in same)

not_in_front : (c : ℕ) (bytes f x r : List ℕ) → IsNotNext c bytes → bytes ≡ f ++ x → SameHead x r → IsNotNext c (f ++ r)
not_in_front c bytes [] [] [] h e same = tt
not_in_front c bytes [] [] (d ∷ r) h e same = absurd same
not_in_front c bytes [] (b ∷ x) [] h e same = absurd same
not_in_front c bytes [] (b ∷ x) (d ∷ r) h e same = λ g. not_at c bytes x h (e ∙ ap (λ y. y ∷ x) (same ∙ g))
not_in_front c bytes (b ∷ f) x r h e same = λ g. not_at c bytes (f ++ x) h (e ∙ ap (λ y. y ∷ (f ++ x)) g)

module _ {B : Type 0} {R K : B → List ℕ → List ℕ → Type 0} where
  pub else_takes : {first : ℕ} {b : B} {bytes rest : List ℕ} → IsElse R K first → Takes K bytes b rest → Takes R bytes b rest
  else_takes {first} {b} {bytes} {rest} same t = record { front = t.front; is = t.is; spelled = λ k. same.forth b (t.front ++ k) k (t.spelled k) }

  pub else_halts : {first : ℕ} {bytes : List ℕ} {left : ℕ} → IsElse R K first → IsNotNext first bytes → Halts K bytes left → Halts R bytes left
  else_halts {first} {bytes} {left} same other h = record {
    front = h.front;
    rest = h.rest;
    is = h.is;
    size = h.size;
    some = h.some;
    next = h.next;
    more = h.more;
    viable = λ k. same.forth h.some _ k (h.viable k);
    wrong = λ b r k head found. h.wrong b r k head (same.back b (h.front ++ r) k (not_in_front first bytes h.front h.rest r other h.is head) found);
  }

  pub reads_else : {X : Type 0} (view : X → B) (after : X → List ℕ) (first : ℕ) (bytes : List ℕ) (r : Result X ReadError) → IsElse R K first → IsNotNext first bytes → Reads view after K bytes r → Reads view after R bytes r
  reads_else view after first bytes (Ok x) same other h = else_takes same h
  reads_else view after first bytes (Err NoMemory) same other h = tt
  reads_else view after first bytes (Err (Bad left)) same other h = else_halts same other h

  pub reads_same : {X : Type 0} (view : X → B) (after : X → List ℕ) (bytes : List ℕ) (r : Result X ReadError) → IsSame R K → Reads view after K bytes r → Reads view after R bytes r
  reads_same view after bytes (Ok x) same h = same_takes same h
  reads_same view after bytes (Err NoMemory) same h = tt
  reads_same view after bytes (Err (Bad left)) same h = same_halts same h

  -- the byte was read, and K is what comes behind it
  pub reads_behind : {X : Type 0} (view : X → B) (rest : X → List ℕ) (first : ℕ) (bytes after : List ℕ) (r : Result X ReadError)
      → IsAt R (Then (Plain (first ∷ [])) (λ u. K)) first → bytes ≡ first ∷ after → Reads view rest K after r → Reads view rest R bytes r
  reads_behind view rest first bytes after (Ok x) same e h = via same (both (plain_takes (first ∷ []) bytes after e) h)
  reads_behind view rest first bytes after (Err NoMemory) same e h = tt
  reads_behind view rest first bytes after (Err (Bad left)) same e h = via_halts same e (in_rest (plain_one (first ∷ [])) (plain_takes (first ∷ []) bytes after e) h)

  pub same_one : IsSame R K → OneForm K → OneForm R
  same_one same one = record { law = λ a b s k l p q. one.law a b s k l (same.back a s k p) (same.back b s l q) }

  pub same_spelled : IsSame R K → IsSpelled K → IsSpelled R
  same_spelled same h = record { some = h.some; text = h.text; spelled = λ k. same.forth h.some (h.text ++ k) k (h.spelled k) }

  pub at_spelled : {first : ℕ} → IsAt R K first → IsSpelled K → IsSpelled R
  at_spelled same h = record { some = h.some; text = h.text; spelled = λ k. same.forth h.some (h.text ++ k) k (h.spelled k) }

  pub else_spelled : {first : ℕ} → IsElse R K first → IsSpelled K → IsSpelled R
  else_spelled same h = record { some = h.some; text = h.text; spelled = λ k. same.forth h.some (h.text ++ k) k (h.spelled k) }

-- one form, from that of both rules
pub split_one : {B : Type 0} {R K L : B → List ℕ → List ℕ → Type 0} {first : ℕ} → IsAt R K first → IsElse R L first → OneForm K → OneForm L → OneForm R
split_one {B} {R} {K} {L} {first} here other one two = record { law = λ a b s k l p q. go a b s k l p q }
  where
    go : (a b : B) (s k l : List ℕ) → R a s k → R b s l → (a ≡ b) × (k ≡ l)
    go a b [] k l p q = two.law a b [] k l (other.back a [] k tt p) (other.back b [] l tt q)
    go a b (c ∷ s) k l p q = elim (cases_eq c first) [
      | inl e ↦
          let p2 : R a (first ∷ s) k = subst (λ x. R a (x ∷ s) k) e p in
          let q2 : R b (first ∷ s) l = subst (λ x. R b (x ∷ s) l) e q in
          one.law a b (first ∷ s) k l (here.back a s k p2) (here.back b s l q2)
      | inr ne ↦ two.law a b (c ∷ s) k l (other.back a (c ∷ s) k ne p) (other.back b (c ∷ s) l ne q)
    ]
