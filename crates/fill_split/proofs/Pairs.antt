-- two kept values for each item
use Rattle.std.proofs.Common.{◌≡◌, ℕ, zero, suc, ◌+◌, ◌*◌, ◌<◌, ◌≤◌, List, [], ◌∷◌, ◌++◌, length, take, map, Some, refl, sym, ap, ◌∙◌, subst, arith}
use Rattle.std.specs.Prelude.{slice_get}
use Rattle.std.proofs.lemmas.List.{length-take-le}
use Rattle.fill_split.specs.declared.rule.Placing.{Placing}
use Rattle.fill_split.specs.Standing.{Spot, spots, ones, Came}

pub double : ℕ → ℕ
double zero = zero
double (suc n) = suc (suc (double n))

pub double_is : (n : ℕ) → double n ≡ 2 * n
unfolding double
double_is zero = refl
double_is (suc n) = let h = double_is n in omega arith

-- the value after the next
pub get_second : {X : Type 0} (xs : List X) (a b : X) → slice_get (xs ++ a ∷ b ∷ []) (length xs + 1) ≡ Some b
get_second {X} xs a b = let e : length xs + 1 ≡ suc (length xs) = omega arith in ap (λ n. slice_get (xs ++ a ∷ b ∷ []) n) e ∙ go xs
  where
    go : (xs : List X) → slice_get (xs ++ a ∷ b ∷ []) (suc (length xs)) ≡ Some b
    go [] = refl
    go (x ∷ xs) = go xs

spot_in : {K : Type 0} (ks : List K) (ps : List ℕ) (i : ℕ) (a b : K) (n : ℕ) → slice_get ks (double i) ≡ Some a → slice_get ks (suc (double i)) ≡ Some b → slice_get ps i ≡ Some n → slice_get (spots ks ps) i ≡ Some (record { one = a; branch = n; kept = b })
unfolding double
spot_in [] ps i a b n f g h = absurd cc
spot_in (k ∷ []) ps zero a b n f g h = absurd cc
spot_in (k ∷ []) ps (suc i) a b n f g h = absurd cc
spot_in (k ∷ j ∷ ks) [] i a b n f g h = absurd cc
spot_in {K} (k ∷ j ∷ ks) (p ∷ ps) zero a b n f g h =
    let ka : k ≡ a = cc in
    let jb : j ≡ b = cc in
    let pn : p ≡ n = cc in
    let make : K → ℕ → K → Spot K = λ o m v. record { one = o; branch = m; kept = v } in
    ap (λ v. Some (make v p j)) ka ∙ ap (λ v. Some (make a v j)) pn ∙ ap (λ v. Some (make a n v)) jb
spot_in (k ∷ j ∷ ks) (p ∷ ps) (suc i) a b n f g h = spot_in ks ps i a b n f g h

-- the spot of an item
pub spot_at : {K : Type 0} (ks : List K) (ps : List ℕ) (i : ℕ) (a b : K) (n : ℕ) → slice_get ks (2 * i) ≡ Some a → slice_get ks (2 * i + 1) ≡ Some b → slice_get ps i ≡ Some n → slice_get (spots ks ps) i ≡ Some (record { one = a; branch = n; kept = b })
spot_at ks ps i a b n f g h =
    let d = double_is i in
    let e : 2 * i + 1 ≡ suc (double i) = omega arith in
    spot_in ks ps i a b n (ap (λ m. slice_get ks m) d ∙ f) (sym (ap (λ m. slice_get ks m) e) ∙ g) h

push_in : {K : Type 0} (ks : List K) (ps : List ℕ) (a b : K) (n : ℕ) → length ks ≡ double (length ps) → spots (ks ++ a ∷ b ∷ []) (ps ++ n ∷ []) ≡ spots ks ps ++ (record { one = a; branch = n; kept = b }) ∷ []
unfolding double
push_in [] [] a b n h = refl
push_in [] (p ∷ ps) a b n h = absurd (omega arith)
push_in (k ∷ []) [] a b n h = absurd (omega arith)
push_in (k ∷ []) (p ∷ ps) a b n h = absurd (omega arith)
push_in (k ∷ j ∷ ks) [] a b n h = absurd (omega arith)
push_in {K} (k ∷ j ∷ ks) (p ∷ ps) a b n h =
    let first : Spot K = record { one = k; branch = p; kept = j } in
    ap (λ l. first ∷ l) (push_in ks ps a b n (omega arith))

-- one item more
pub spots_push : {K : Type 0} (ks : List K) (ps : List ℕ) (a b : K) (n : ℕ) → length ks ≡ 2 * length ps → spots (ks ++ a ∷ b ∷ []) (ps ++ n ∷ []) ≡ spots ks ps ++ (record { one = a; branch = n; kept = b }) ∷ []
spots_push ks ps a b n h = push_in ks ps a b n (h ∙ sym (double_is (length ps)))

long_in : {K : Type 0} (ks : List K) (ps : List ℕ) → length ks ≡ double (length ps) → length (spots ks ps) ≡ length ps
unfolding double
long_in [] [] h = refl
long_in [] (p ∷ ps) h = absurd (omega arith)
long_in (k ∷ []) [] h = absurd (omega arith)
long_in (k ∷ []) (p ∷ ps) h = absurd (omega arith)
long_in (k ∷ j ∷ ks) [] h = absurd (omega arith)
long_in (k ∷ j ∷ ks) (p ∷ ps) h = ap suc (long_in ks ps (omega arith))

pub spots_long : {K : Type 0} (ks : List K) (ps : List ℕ) → length ks ≡ 2 * length ps → length (spots ks ps) ≡ length ps
spots_long ks ps h = long_in ks ps (h ∙ sym (double_is (length ps)))

take_in : {K : Type 0} (n : ℕ) (ks : List K) (ps : List ℕ) → spots (take (double n) ks) (take n ps) ≡ take n (spots ks ps)
unfolding double
take_in zero ks ps = refl
take_in (suc n) [] ps = refl
take_in (suc n) (k ∷ []) ps = refl
take_in (suc n) (k ∷ j ∷ ks) [] = refl
take_in {K} (suc n) (k ∷ j ∷ ks) (p ∷ ps) =
    let first : Spot K = record { one = k; branch = p; kept = j } in
    ap (λ l. first ∷ l) (take_in n ks ps)

-- the first items
pub spots_take : {K : Type 0} (n : ℕ) (ks : List K) (ps : List ℕ) → spots (take (2 * n) ks) (take n ps) ≡ take n (spots ks ps)
spots_take n ks ps = ap (λ m. spots (take m ks) (take n ps)) (sym (double_is n)) ∙ take_in n ks ps

pub paired_take : {K : Type 0} (n : ℕ) (ks : List K) (ps : List ℕ) → length ks ≡ 2 * length ps → n ≤ length ps → length (take (2 * n) ks) ≡ 2 * length (take n ps)
paired_take n ks ps h w =
    let a = length-take-le n ps w in
    let b = length-take-le (2 * n) ks (omega arith) in
    omega arith

ones_in : {K : Type 0} (ks : List K) (ps : List ℕ) → length ks ≡ double (length ps) → ones ks ≡ map (λ (p : Spot K). p.one) (spots ks ps)
unfolding double
ones_in [] [] h = refl
ones_in [] (p ∷ ps) h = absurd (omega arith)
ones_in (k ∷ []) [] h = absurd (omega arith)
ones_in (k ∷ []) (p ∷ ps) h = absurd (omega arith)
ones_in (k ∷ j ∷ ks) [] h = absurd (omega arith)
ones_in (k ∷ j ∷ ks) (p ∷ ps) h = ap (λ l. k ∷ l) (ones_in ks ps (omega arith))

pub ones_of : {K : Type 0} (ks : List K) (ps : List ℕ) → length ks ≡ 2 * length ps → ones ks ≡ map (λ (p : Spot K). p.one) (spots ks ps)
ones_of ks ps h = ones_in ks ps (h ∙ sym (double_is (length ps)))

next_in : {K : Type 0} (ks : List K) (i : ℕ) (a : K) → suc (double i) < length ks → slice_get ks (double i) ≡ Some a → ones (take (double (suc i)) ks) ≡ ones (take (double i) ks) ++ a ∷ []
unfolding double
next_in [] i a l h = absurd (omega arith)
next_in (k ∷ []) zero a l h = absurd (omega arith)
next_in (k ∷ []) (suc i) a l h = absurd (omega arith)
next_in (k ∷ j ∷ ks) zero a l h = let e : k ≡ a = cc in ap (λ v. v ∷ []) e
next_in (k ∷ j ∷ ks) (suc i) a l h = ap (λ v. k ∷ v) (next_in ks i a (omega arith) h)

-- the single of one more item
pub ones_next : {K : Type 0} (ks : List K) (i : ℕ) (a : K) → 2 * i + 1 < length ks → slice_get ks (2 * i) ≡ Some a → ones (take (2 * (i + 1)) ks) ≡ ones (take (2 * i) ks) ++ a ∷ []
ones_next ks i a l h =
    let d = double_is i in
    let e = double_is (suc i) in
    let s : 2 * (i + 1) ≡ double (suc i) = omega arith in
    ap (λ m. ones (take m ks)) s ∙ next_in ks i a (omega arith) (ap (λ m. slice_get ks m) d ∙ h) ∙ ap (λ m. ones (take m ks) ++ a ∷ []) d

single_long : {K : Type 0} (ks : List K) (ps : List ℕ) → length ks ≡ double (length ps) → length (ones ks) ≡ length ps
unfolding double
single_long [] [] h = refl
single_long [] (p ∷ ps) h = absurd (omega arith)
single_long (k ∷ []) [] h = absurd (omega arith)
single_long (k ∷ []) (p ∷ ps) h = absurd (omega arith)
single_long (k ∷ j ∷ ks) [] h = absurd (omega arith)
single_long (k ∷ j ∷ ks) (p ∷ ps) h = ap suc (single_long ks ps (omega arith))

pub ones_long : {K : Type 0} (ks : List K) (ps : List ℕ) → length ks ≡ 2 * length ps → length (ones ks) ≡ length ps
ones_long ks ps h = single_long ks ps (h ∙ sym (double_is (length ps)))

live_in : {K I : Type 0} (stands : K → List I → Type 0) (rule : Placing) (fits : List I → Type 0) (weight : List I → ℕ → Type 0) (so_far : List (List I)) (xs : List I) (ks : List K) (ps : List ℕ) (end : List (List I)) → length ks ≡ double (length ps) → Came stands rule fits weight so_far xs (spots ks ps) end → (i : ℕ) (k : K) → slice_get ks i ≡ Some k → (l : List I) × stands k l
unfolding double
live_in stands rule fits weight so_far xs [] ps end p c i k h = absurd cc
live_in stands rule fits weight so_far xs (a ∷ []) [] end p c i k h = absurd (omega arith)
live_in stands rule fits weight so_far xs (a ∷ []) (q ∷ ps) end p c i k h = absurd (omega arith)
live_in stands rule fits weight so_far xs (a ∷ b ∷ ks) [] end p c i k h = absurd (omega arith)
live_in stands rule fits weight so_far [] (a ∷ b ∷ ks) (q ∷ ps) end p c i k h = absurd c
live_in stands rule fits weight so_far (x ∷ xs) (a ∷ b ∷ ks) (q ∷ ps) end p c zero k h = let e : a ≡ k = cc in (x ∷ [], subst (λ v. stands v (x ∷ [])) e c.1.one)
live_in stands rule fits weight so_far (x ∷ xs) (a ∷ b ∷ ks) (q ∷ ps) end p c (suc zero) k h = let e : b ≡ k = cc in (c.1.list, subst (λ v. stands v c.1.list) e c.1.kept)
live_in stands rule fits weight so_far (x ∷ xs) (a ∷ b ∷ ks) (q ∷ ps) end p c (suc (suc i)) k h = live_in stands rule fits weight c.0 xs ks ps end (omega arith) c.2 i k h

-- each kept value stands for a list
pub live : {K I : Type 0} (stands : K → List I → Type 0) (rule : Placing) (fits : List I → Type 0) (weight : List I → ℕ → Type 0) (items : List I) (ks : List K) (ps : List ℕ) (end : List (List I)) → length ks ≡ 2 * length ps → Came stands rule fits weight [] items (spots ks ps) end → (i : ℕ) (k : K) → slice_get ks i ≡ Some k → (l : List I) × stands k l
live stands rule fits weight items ks ps end p c i k h = live_in stands rule fits weight [] items ks ps end (p ∙ sym (double_is (length ps))) c i k h
