-- placing gives one list of branches, and no item before the last one placed opened a ninth
use Rattle.std.proofs.Common.{◌≡◌, ℕ, zero, suc, ◌<◌, ◌≤◌, ◌++◌, ⊎_elim, List, [], ◌∷◌, length, set, take, Some, refl, sym, ap, ◌∙◌, subst, arith, length-set}
use Rattle.std.specs.Prelude.{slice_get}
use Rattle.std.proofs.lemmas.Bool.{cases_lt, cases_eq}
use Rattle.std.proofs.lemmas.List.{length_push}
use Rattle.fill_split.specs.declared.rule.Placing.{Placing}
use Rattle.fill_split.specs.declared.rule.Placing.TheVariants.{First, Lightest}
use Rattle.fill_split.specs.Placement.{Prefers, Follows, PlacedFrom, Placed, NoneFits, OpensNinth}
use Rattle.fill_split.specs.Refusals.{Unplaceable, IsFirstFrom}

-- a rule prefers one place
prefers_once : {I : Type 0} (rule : Placing) (fits : List I → Type 0) (weight : List I → ℕ → Type 0) (bs : List (List I)) (x : I) (k n : ℕ) (b c : List I) → slice_get bs k ≡ Some b → slice_get bs n ≡ Some c → fits (b ++ x ∷ []) → fits (c ++ x ∷ []) → Prefers rule fits weight bs x k b → Prefers rule fits weight bs x n c → k ≡ n
prefers_once First fits weight bs x k n b c hb hc fb fc p q =
    ⊎_elim (λ l. absurd (q k b l hb fb)) (λ l. ⊎_elim (λ m. absurd (p n c m hc fc)) (λ m. omega arith) (cases_lt n k)) (cases_lt k n)
prefers_once Lightest fits weight bs x k n b c hb hc fb fc p q =
    ⊎_elim
    (λ same. same)
    (λ other.
    let less = p n c (λ e. other (sym e)) hc fc in
    let more = q k b other hb fb in
    let no_more = less.4 more.0 more.2 in
    let no_less = more.4 less.0 less.2 in
    let a = no_more.0 in
    ⊎_elim
    (λ l. let e = no_less.1 l in absurd (omega arith))
    (λ l. let e : n < k = omega (arith, l, other) in let r = no_more.1 e in let d = no_less.0 in absurd (omega arith))
    (cases_lt k n))
    (cases_eq k n)

module _ {I : Type 0} (rule : Placing) (fits : List I → Type 0) (weight : List I → ℕ → Type 0) where
  follows_once : (bs : List (List I)) (x : I) (n m : List (List I)) → Follows rule fits weight bs x n → Follows rule fits weight bs x m → n ≡ m
  follows_once bs x n m p q =
      ⊎_elim
      (λ g. ⊎_elim
      (λ h.
      let e : g.0 ≡ h.0 = prefers_once rule fits weight bs x g.0 h.0 g.1 h.1 g.2.here h.2.here g.2.fitting h.2.fitting g.2.preferred h.2.preferred in
      let s : Some g.1 ≡ Some h.1 = sym g.2.here ∙ ap (λ i. slice_get bs i) e ∙ h.2.here in
      let b : g.1 ≡ h.1 = cc in
      g.3 ∙ ap (λ i. set bs i (g.1 ++ x ∷ [])) e ∙ ap (λ c. set bs h.0 (c ++ x ∷ [])) b ∙ sym h.3)
      (λ o. absurd (o.0 g.0 g.1 g.2.here g.2.fitting))
      q)
      (λ o. ⊎_elim (λ h. absurd (o.0 h.0 h.1 h.2.here h.2.fitting)) (λ o'. o.1 ∙ sym o'.1) q)
      p

  pub placed_once : (so_far : List (List I)) (xs : List I) (n m : List (List I)) → PlacedFrom rule fits weight so_far xs n → PlacedFrom rule fits weight so_far xs m → n ≡ m
  placed_once so_far [] n m p q = p ∙ sym q
  placed_once so_far (x ∷ xs) n m p q =
      let e = follows_once so_far x q.0 p.0 q.1 p.1 in
      placed_once p.0 xs n m p.2 (subst (λ v. PlacedFrom rule fits weight v xs m) e q.2)

  -- where none fits, there is one branch more
  follows_more : (bs : List (List I)) (x : I) (n : List (List I)) → NoneFits fits bs x → Follows rule fits weight bs x n → length n ≡ suc (length bs)
  follows_more bs x n none p =
      ⊎_elim
      (λ g. absurd (none g.0 g.1 g.2.here g.2.fitting))
      (λ o. let l = length_push bs (x ∷ []) in let e = ap length o.1 in omega arith)
      p

  follows_grows : (bs : List (List I)) (x : I) (n : List (List I)) → Follows rule fits weight bs x n → length bs ≤ length n
  follows_grows bs x n p =
      ⊎_elim
      (λ g. let l = length-set bs g.0 (g.1 ++ x ∷ []) in let e = ap length g.3 in omega arith)
      (λ o. let l = length_push bs (x ∷ []) in let e = ap length o.1 in omega arith)
      p

  placed_grows : (so_far : List (List I)) (xs : List I) (end : List (List I)) → PlacedFrom rule fits weight so_far xs end → length so_far ≤ length end
  placed_grows so_far [] end f = let e = ap length f in omega arith
  placed_grows so_far (x ∷ xs) end f = let a = follows_grows so_far x f.0 f.1 in let b = placed_grows f.0 xs end f.2 in omega arith

  -- the branches before an item, and after it
  placed_at : (so_far : List (List I)) (xs : List I) (end : List (List I)) (j : ℕ) (x : I) → PlacedFrom rule fits weight so_far xs end → slice_get xs j ≡ Some x → (mid : List (List I)) × (next : List (List I)) × PlacedFrom rule fits weight so_far (take j xs) mid × Follows rule fits weight mid x next × (length next ≤ length end)
  placed_at so_far [] end j x f e = absurd cc
  placed_at so_far (y ∷ xs) end zero x f e =
      let same : y ≡ x = cc in
      (so_far, f.0, refl, subst (λ v. Follows rule fits weight so_far v f.0) same f.1, placed_grows f.0 xs end f.2)
  placed_at so_far (y ∷ xs) end (suc j) x f e =
      let z = placed_at f.0 xs end j x f.2 e in
      (z.0, z.1, (f.0, f.1, z.2), z.3, z.4)

  pub no_ninth : (xs : List I) (end : List (List I)) (j : ℕ) (x : I) → Placed rule fits weight xs end → length end ≤ 8 → slice_get xs j ≡ Some x → OpensNinth rule fits weight (take j xs) x → ⊥
  no_ninth xs end j x f few e o =
      let z = placed_at [] xs end j x f e in
      let same = placed_once [] (take j xs) o.branches z.0 o.placed z.2 in
      let none = subst (λ v. NoneFits fits v x) same o.none in
      let more = follows_more z.0 x z.1 none z.3 in
      let eight = ap length (sym same) ∙ o.eight in
      let l = z.4 in
      omega arith

take_less : {X : Type 0} (i j : ℕ) (xs : List X) → j ≤ i → take j (take i xs) ≡ take j xs
take_less i zero xs h = refl
take_less zero (suc j) xs h = absurd (omega arith)
take_less (suc i) (suc j) [] h = refl
take_less (suc i) (suc j) (x ∷ xs) h = ap (λ l. x ∷ l) (take_less i j xs (omega arith))

get_less : {X : Type 0} (i j : ℕ) (xs : List X) → j < i → slice_get (take i xs) j ≡ slice_get xs j
get_less zero j xs h = absurd (omega arith)
get_less (suc i) zero [] h = refl
get_less (suc i) zero (x ∷ xs) h = refl
get_less (suc i) (suc j) [] h = refl
get_less (suc i) (suc j) (x ∷ xs) h = get_less i j xs (omega arith)

module _ {I : Type 0} (rule : Placing) (fits : List I → Type 0) (weight : List I → ℕ → Type 0) (items : List I) where
  -- where each item fits alone, and the items before a place have at most eight branches, none of them can't be placed
  pub is_first : (at i : ℕ) (bs : List (List I)) → at ≤ i → Placed rule fits weight (take i items) bs → length bs ≤ 8 → ((j : ℕ) (x : I) → slice_get items j ≡ Some x → fits (x ∷ [])) → IsFirstFrom rule fits weight items at i
  is_first at i bs from f few alone =
      record {
        from = from;
        earlier = λ j h l u. ⊎_elim (λ n. n.2 (alone j n.0 n.1)) (λ n. no_ninth rule fits weight (take i items) bs j n.0 f few (get_less i j items l ∙ n.1) (subst (λ v. OpensNinth rule fits weight v n.0) (sym (take_less i j items (omega arith))) n.2)) u;
      }

  -- where each item fits alone, and they have at most eight branches, each can be placed
  pub all_placed : (bs : List (List I)) → Placed rule fits weight items bs → length bs ≤ 8 → ((j : ℕ) (x : I) → slice_get items j ≡ Some x → fits (x ∷ [])) → (j : ℕ) → Unplaceable rule fits weight items j → ⊥
  all_placed bs f few alone j u = ⊎_elim (λ n. n.2 (alone j n.0 n.1)) (λ n. no_ninth rule fits weight items bs j n.0 f few n.1 n.2) u

  -- the first item from a place is the first that can't be placed
  pub is_first_here : (at : ℕ) → IsFirstFrom rule fits weight items at at
  is_first_here at = record { from = omega arith; earlier = λ j h l u. absurd (omega arith) }
