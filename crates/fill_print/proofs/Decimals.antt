-- Numbers in decimal, from the left.
use Rattle.std.proofs.Common.{◌≡◌, ℕ, zero, suc, ◌+◌, ◌-◌, ◌*◌, ◌/◌, ◌%◌, ◌^◌, ◌<◌, ◌≤◌, ◌⊎◌, inl, inr, List, [], ◌∷◌, ◌++◌, length, get_or, refl, sym, ap, subst, ◌∙◌, arith}
use Rattle.std.proofs.lemmas.List.{append_assoc}
use Rattle.std.proofs.lemmas.Fmt.{decimal_digit, decimal_step, decimal_by_steps, first_decimal}
use Rattle.std.specs.Fmt.{decimal}
use Rattle.fill_print.specs.Reading.{SameHead, Takes, Halts}
use Rattle.fill_print.specs.Numbers.{Number, PutsDigit}
use Rattle.fill_print.proofs.Chains.{OneForm, IsSpelled}

abbrev pub AreDigits : List ℕ → Type 0
AreDigits [] = Unit {0}
AreDigits (c ∷ cs) = (48 ≤ c) × (c < 58) × AreDigits cs

-- the number that comes of putting digits to v
abbrev pub onto : ℕ → List ℕ → ℕ
onto v [] = v
onto v (c ∷ cs) = onto (v * 10 + (c - 48)) cs

onto_le : (v : ℕ) (ds : List ℕ) → v ≤ onto v ds
onto_le v [] = omega arith
onto_le v (c ∷ cs) = let h = onto_le (v * 10 + (c - 48)) cs in omega (arith, h)

onto_append : (v : ℕ) (xs ys : List ℕ) → onto v (xs ++ ys) ≡ onto (onto v xs) ys
onto_append v [] ys = refl
onto_append v (c ∷ xs) ys = onto_append (v * 10 + (c - 48)) xs ys

digits_append : (xs ys : List ℕ) → AreDigits xs → AreDigits ys → AreDigits (xs ++ ys)
digits_append [] ys h k = k
digits_append (c ∷ xs) ys h k = (h.0, h.1, digits_append xs ys h.2 k)

record Reads10 (n : ℕ) (ds : List ℕ) : Type 0 where
  digits : AreDigits ds
  value : onto 0 ds ≡ n

decimal_reads : (n : ℕ) → n < 2 ^ 64 → Reads10 n (decimal n)
decimal_reads = decimal_by_steps Reads10
    (λ n h. record { digits = (omega arith, omega arith, tt); value = omega arith })
    (λ n ds h so_far. record {
      digits = digits_append ds ((48 + n % 10) ∷ []) so_far.digits (omega arith, omega arith, tt);
      value = onto_append 0 ds ((48 + n % 10) ∷ []) ∙ (let e = so_far.value in omega arith);
    })

-- the digits of the number so far: none for 0
abbrev pub so_far : ℕ → List ℕ
so_far zero = []
so_far (suc n) = decimal (suc n)

so_far_reads : (n : ℕ) → n < 2 ^ 64 → Reads10 n (so_far n)
so_far_reads zero h = record { digits = tt; value = refl }
so_far_reads (suc n) h = decimal_reads (suc n) h

so_far_is : (n : ℕ) → 0 < n → so_far n ≡ decimal n
so_far_is zero h = absurd (omega arith)
so_far_is (suc n) h = refl

-- one digit more
pub so_far_more : (v d : ℕ) → d < 10 → 0 < v * 10 + d → v * 10 + d < 2 ^ 64 → so_far (v * 10 + d) ≡ so_far v ++ (48 + d) ∷ []
so_far_more zero d small some fits =
    let e : 0 * 10 + d ≡ d = omega arith in
    rw e (so_far_is d (omega arith) ∙ decimal_digit d small)
so_far_more (suc v) d small some fits =
    let n : ℕ = suc v * 10 + d in
    let front : n / 10 ≡ suc v = omega arith in
    let last : n % 10 ≡ d = omega arith in
    so_far_is n some ∙ decimal_step n (omega arith) fits ∙ ap (λ x. decimal x ++ (48 + n % 10) ∷ []) front ∙ ap (λ x. decimal (suc v) ++ (48 + x) ∷ []) last

-- where digits and the byte after them begin with other digits, the first are those and more digits
split_digits : (f ds r k : List ℕ) (last : ℕ) → last < 48 → AreDigits f → AreDigits ds → ds ++ last ∷ k ≡ f ++ r → (rest : List ℕ) × AreDigits rest × (ds ≡ f ++ rest) × (r ≡ rest ++ last ∷ k)
split_digits [] ds r k last low p q e = (ds, q, refl, sym e)
split_digits (c ∷ f) [] r k last low p q e = let same : last ≡ c = cc in absurd (omega (arith, p.0))
split_digits (c ∷ f) (d ∷ ds) r k last low p q e =
    let tails : ds ++ last ∷ k ≡ f ++ r = cc in
    let heads : d ≡ c = cc in
    let more = split_digits f ds r k last low p.2 q.2 tails in
    (more.0, more.1, ap (λ x. d ∷ x) more.2 ∙ ap (λ x. x ∷ (f ++ more.0)) heads, more.3)

-- what can follow the number so far: the end, or another digit
pub record Follows (limit last v n : ℕ) (c : ℕ) (x : List ℕ) : Type 0 where
  pub low : 48 ≤ c
  pub high : c < 58
  pub some : 0 < v * 10 + (c - 48)
  pub within : v * 10 + (c - 48) ≤ limit

first_digit : (n c : ℕ) (x : List ℕ) → 0 < n → n < 2 ^ 64 → decimal n ≡ c ∷ x → 48 < c
first_digit n c x some fits e = let h = first_decimal n some fits in let f : get_or (decimal n) 0 0 ≡ c = ap (λ y. get_or y 0 0) e in omega arith

pub number_next : (limit last v n : ℕ) (r k : List ℕ) → limit < 2 ^ 32 → last < 48 → v < 2 ^ 32 → Number limit last n (so_far v ++ r) k
    → ((n ≡ v) × (r ≡ last ∷ k)) ⊎ ((c : ℕ) × (x : List ℕ) × (r ≡ c ∷ x) × Follows limit last v n c x)
number_next limit last v n r k fits low small h =
    let f = so_far_reads v (omega arith) in
    let d = decimal_reads n (omega (arith, h.1)) in
    let s = split_digits (so_far v) (decimal n) r k last low f.digits d.digits (sym h.2) in
    let value : onto v s.0 ≡ n = ap (λ x. onto x s.0) (sym f.value) ∙ sym (onto_append 0 (so_far v) s.0) ∙ ap (onto 0) (sym s.2) ∙ d.value in
    elim s.0 as (λ y. AreDigits y → decimal n ≡ so_far v ++ y → r ≡ y ++ last ∷ k → onto v y ≡ n → ((n ≡ v) × (r ≡ last ∷ k)) ⊎ ((c : ℕ) × (x : List ℕ) × (r ≡ c ∷ x) × Follows limit last v n c x)) [
      | [] ↦ λ p q e g. inl (sym g, e)
      | c ∷ x ↦ λ p q e g.
          let more = onto_le (v * 10 + (c - 48)) x in
          inr (c, x ++ last ∷ k, e, record { low = p.0; high = p.1; some = some_digit v n c x (omega (arith, h.0)) (omega (arith, h.1)) q; within = omega (arith, h.1) })
    ] s.1 s.2 s.3 value
  where
    some_digit : (v n c : ℕ) (x : List ℕ) → 0 < n → n < 2 ^ 64 → decimal n ≡ so_far v ++ c ∷ x → 0 < v * 10 + (c - 48)
    some_digit zero n c x some fits e = let h = first_digit n c x some fits e in omega arith
    some_digit (suc v) n c x some fits e = omega arith

-- no number goes on with this
abbrev pub Blocks : ℕ → ℕ → ℕ → List ℕ → Type 0
Blocks limit last v [] = Unit {0}
Blocks limit last v (b ∷ after) = (b ≡ last → v ≡ 0) × ((n : ℕ) → PutsDigit limit v b n → ⊥)

blocked : (limit last v : ℕ) (rest r k : List ℕ) (n : ℕ) → Blocks limit last v rest → SameHead rest r → 1 ≤ n
    → ((n ≡ v) × (r ≡ last ∷ k)) ⊎ ((c : ℕ) × (x : List ℕ) × (r ≡ c ∷ x) × Follows limit last v n c x) → ⊥
blocked limit last v [] [] k n stop same one (inl h) = let e : ◌≡◌ {A = List ℕ} [] (last ∷ k) = h.1 in cc
blocked limit last v [] [] k n stop same one (inr h) = let e : ◌≡◌ {A = List ℕ} [] (h.0 ∷ h.1) = h.2 in cc
blocked limit last v [] (d ∷ r) k n stop same one h = absurd same
blocked limit last v (b ∷ after) [] k n stop same one h = absurd same
blocked limit last v (b ∷ after) (d ∷ r) k n stop same one (inl h) =
    let e : d ∷ r ≡ last ∷ k = h.1 in
    let f : b ≡ last = cc in
    let z = stop.0 f in
    omega (arith, h.0)
blocked limit last v (b ∷ after) (d ∷ r) k n stop same one (inr h) =
    let e : d ∷ r ≡ h.0 ∷ h.1 = h.2 in
    let f : h.0 ≡ b = cc in
    let g : Follows limit last v n b h.1 = subst (λ c. Follows limit last v n c h.1) f h.3 in
    stop.1 (v * 10 + (b - 48)) (record { low = g.low; high = g.high; is = refl; some = g.some; within = g.within })

pub one_is : decimal 1 ≡ 49 ∷ []
one_is = decimal_digit 1 (omega arith)

-- from each number so far a number goes on
goes : (limit last v : ℕ) → 1 ≤ limit → v ≤ limit → (n : ℕ) × (c : ℕ) × (more : List ℕ) × (1 ≤ n) × (n ≤ limit) × (decimal n ++ last ∷ [] ≡ so_far v ++ c ∷ more)
goes limit last zero some fits = (1, 49, last ∷ [], omega arith, some, ap (λ x. x ++ last ∷ []) one_is)
goes limit last (suc v) some fits = (suc v, last, [], omega arith, fits, refl)

pub number_halts : (limit last v : ℕ) (bytes rest : List ℕ) → 1 ≤ limit → limit < 2 ^ 32 → last < 48 → v ≤ limit → bytes ≡ so_far v ++ rest → Blocks limit last v rest → Halts (Number limit last) bytes (length rest)
number_halts limit last v bytes rest some fits low small e stop =
    let g = goes limit last v some small in
    record {
      front = so_far v;
      rest = rest;
      is = e;
      size = refl;
      some = g.0;
      next = g.1;
      more = g.2;
      viable = λ k. (g.3, g.4, ap (λ x. x ++ k) (sym g.5) ∙ append_assoc (decimal g.0) (last ∷ []) k);
      wrong = λ n r k same found. blocked limit last v rest r k n stop same found.0 (number_next limit last v n r k fits low (omega arith) found);
    }

pub number_takes : (limit last v : ℕ) (bytes rest after : List ℕ) → 0 < v → v ≤ limit → bytes ≡ so_far v ++ rest → rest ≡ last ∷ after → Takes (Number limit last) bytes v after
number_takes limit last v bytes rest after some fits e f = record {
  front = decimal v ++ last ∷ [];
  is = e ∙ ap (λ x. so_far v ++ x) f ∙ ap (λ x. x ++ last ∷ after) (so_far_is v some) ∙ sym (append_assoc (decimal v) (last ∷ []) after);
  spelled = λ k. (some, fits, append_assoc (decimal v) (last ∷ []) k);
}

pub number_more : (limit v b n : ℕ) (bytes rest after : List ℕ) → limit < 2 ^ 32 → bytes ≡ so_far v ++ rest → rest ≡ b ∷ after → PutsDigit limit v b n → bytes ≡ so_far n ++ after
number_more limit v b n bytes rest after fits e f p =
    let d : ℕ = b - 48 in
    let back : 48 + d ≡ b = omega (arith, p.low) in
    let small : d < 10 = omega (arith, p.high, p.low) in
    let step : so_far (v * 10 + d) ≡ so_far v ++ (48 + d) ∷ [] = so_far_more v d small (omega (arith, p.is, p.some)) (omega (arith, p.is, p.within)) in
    let text : so_far n ≡ so_far v ++ b ∷ [] = ap so_far p.is ∙ step ∙ ap (λ x. so_far v ++ x ∷ []) back in
    e ∙ ap (λ x. so_far v ++ x) f ∙ sym (append_assoc (so_far v) (b ∷ []) after) ∙ ap (λ x. x ++ after) (sym text)

pub number_spelled : (limit last : ℕ) → 1 ≤ limit → IsSpelled (Number limit last)
number_spelled limit last h = record { some = 1; text = 49 ∷ last ∷ []; spelled = λ k. (omega arith, h, ap (λ x. x ++ last ∷ k) (sym one_is)) }

pub number_one : (limit last : ℕ) → limit < 2 ^ 32 → last < 48 → OneForm (Number limit last)
number_one limit last fits low = record {
  law = λ a b s k l p q.
      let there : Number limit last b (so_far a ++ last ∷ k) l = subst (λ x. Number limit last b x l) (p.2 ∙ ap (λ x. x ++ last ∷ k) (sym (so_far_is a p.0))) q in
      elim (number_next limit last a b (last ∷ k) l fits low (omega (arith, p.1)) there) [
        | inl h ↦ let e : last ∷ k ≡ last ∷ l = h.1 in (sym h.0, cc)
        | inr h ↦ let e : last ∷ k ≡ h.0 ∷ h.1 = h.2 in let f : last ≡ h.0 = cc in absurd (omega (arith, h.3.low))
      ];
}

pub blocks_end : (limit last v : ℕ) (rest : List ℕ) → rest ≡ [] → Blocks limit last v rest
blocks_end limit last v rest e = subst (λ x. Blocks limit last v x) (sym e) tt

pub blocks_at : (limit last v b : ℕ) (rest after : List ℕ) → rest ≡ b ∷ after → (b ≡ last → v ≡ 0) → ((n : ℕ) → PutsDigit limit v b n → ⊥) → Blocks limit last v rest
blocks_at limit last v b rest after e f g = subst (λ x. Blocks limit last v x) (sym e) (f, g)

pub number_ends : (limit last v : ℕ) (bytes rest : List ℕ) → 1 ≤ limit → limit < 2 ^ 32 → last < 48 → v ≤ limit → bytes ≡ so_far v ++ rest → rest ≡ [] → Halts (Number limit last) bytes 0
number_ends limit last v bytes rest some fits low small e nil = number_halts limit last v bytes [] some fits low small (e ∙ ap (λ x. so_far v ++ x) nil) tt
