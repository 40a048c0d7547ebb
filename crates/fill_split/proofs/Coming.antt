-- one more item comes to its branch
use Rattle.std.proofs.Common.{◌≡◌, ℕ, zero, suc, ◌+◌, ◌*◌, ◌≤◌, inl, inr, ⊎_elim, List, [], ◌∷◌, ◌++◌, length, set, take, Some, refl, sym, ap, ◌∙◌, subst, arith, length-set, length-append}
use Rattle.std.specs.Prelude.{slice_get}
use Rattle.std.specs.List.{AllZip}
use Rattle.std.proofs.lemmas.List.{length_push}
use Rattle.fill_split.specs.declared.folds.Fold.{Fold}
use Rattle.fill_split.specs.declared.rule.Placing.{Placing}
use Rattle.fill_split.specs.Keeping.{Keeps}
use Rattle.fill_split.specs.Placement.{Follows, PlacedFrom, NoneFits, OpensNinth}
use Rattle.fill_split.specs.Choices.{IsChosen}
use Rattle.fill_split.specs.Standing.{Spot, spots, KeptStand, BranchStands, AllStand, ComesTo, Came, Traced, Stand}
use Rattle.fill_split.proofs.Zips.{zip_lengths, zip_some, zip_set, zip_push, zip_weaker, get_front, get_next}
use Rattle.fill_split.proofs.Pairs.{spots_push, spots_long, spots_take, paired_take, get_second}

module _ {K I : Type 0} (stands : K → List I → Type 0) (rule : Placing) (fits : List I → Type 0) (weight : List I → ℕ → Type 0) where
  -- as many spots as items
  pub came_long : (so_far : List (List I)) (xs : List I) (ps : List (Spot K)) (end : List (List I)) → Came stands rule fits weight so_far xs ps end → length ps ≡ length xs
  came_long so_far [] [] end r = refl
  came_long so_far [] (p ∷ ps) end r = absurd r
  came_long so_far (x ∷ xs) [] end r = absurd r
  came_long so_far (x ∷ xs) (p ∷ ps) end r = ap suc (came_long r.0 xs ps end r.2)

  -- one more item
  pub came_more : (so_far : List (List I)) (xs : List I) (ps : List (Spot K)) (bs next : List (List I)) (x : I) (p : Spot K) → Came stands rule fits weight so_far xs ps bs → ComesTo stands rule fits weight bs x p next → Came stands rule fits weight so_far (xs ++ x ∷ []) (ps ++ p ∷ []) next
  came_more so_far [] [] bs next x p r s = (next, subst (λ v. ComesTo stands rule fits weight v x p next) r s, refl)
  came_more so_far [] (q ∷ ps) bs next x p r s = absurd r
  came_more so_far (y ∷ xs) [] bs next x p r s = absurd r
  came_more so_far (y ∷ xs) (q ∷ ps) bs next x p r s = (r.0, r.1, came_more r.0 xs ps bs next x p r.2 s)

  -- the last item
  pub came_last : (so_far : List (List I)) (seen : List I) (ps : List (Spot K)) (end : List (List I)) (p : Spot K) → Came stands rule fits weight so_far seen (ps ++ p ∷ []) end → (xs : List I) × (x : I) × (bs : List (List I)) × (seen ≡ xs ++ x ∷ []) × Came stands rule fits weight so_far xs ps bs × ComesTo stands rule fits weight bs x p end
  came_last so_far [] [] end p r = absurd r
  came_last so_far (x ∷ []) [] end p r = ([], x, so_far, refl, refl, subst (λ v. ComesTo stands rule fits weight so_far x p v) (sym r.2) r.1)
  came_last so_far (x ∷ y ∷ xs) [] end p r = absurd r.2
  came_last so_far [] (q ∷ ps) end p r = absurd r
  came_last so_far (x ∷ xs) (q ∷ ps) end p r =
      let z = came_last r.0 xs ps end p r.2 in
      (x ∷ z.0, z.1, z.2, ap (λ l. x ∷ l) z.3, (r.0, r.1, z.4), z.5)

  comes_follow : (bs : List (List I)) (x : I) (p : Spot K) (next : List (List I)) → ComesTo stands rule fits weight bs x p next → Follows rule fits weight bs x next
  comes_follow bs x p next s =
      ⊎_elim
      (λ h. inr (h.3, h.2 ∙ ap (λ l. bs ++ l ∷ []) h.1))
      (λ h. inl (p.branch, h.0, h.1, h.3 ∙ ap (λ l. set bs p.branch l) h.2))
      s.how

  -- the branches are those of the rule
  pub came_placed : (so_far : List (List I)) (xs : List I) (ps : List (Spot K)) (end : List (List I)) → Came stands rule fits weight so_far xs ps end → PlacedFrom rule fits weight so_far xs end
  came_placed so_far [] [] end r = r
  came_placed so_far [] (p ∷ ps) end r = absurd r
  came_placed so_far (x ∷ xs) [] end r = absurd r
  came_placed so_far (x ∷ xs) (p ∷ ps) end r = (r.0, comes_follow so_far x p r.0 r.1, came_placed r.0 xs ps end r.2)

  -- what stands for each item alone
  pub came_singles : (so_far : List (List I)) (xs : List I) (ps : List (Spot K)) (end : List (List I)) → Came stands rule fits weight so_far xs ps end → AllZip (λ (p : Spot K) x. stands p.one (x ∷ [])) ps xs
  came_singles so_far [] [] end r = tt
  came_singles so_far [] (p ∷ ps) end r = absurd r
  came_singles so_far (x ∷ xs) [] end r = absurd r
  came_singles so_far (x ∷ xs) (p ∷ ps) end r = (r.1.one, came_singles r.0 xs ps end r.2)

  -- branches never get fewer
  comes_grow : (bs : List (List I)) (x : I) (p : Spot K) (next : List (List I)) → ComesTo stands rule fits weight bs x p next → length bs ≤ length next
  comes_grow bs x p next s =
      ⊎_elim
      (λ h. let l = length_push bs s.list in let e = ap length h.2 in omega arith)
      (λ h. let l = length-set bs p.branch s.list in let e = ap length h.3 in omega arith)
      s.how

  pub came_grow : (so_far : List (List I)) (xs : List I) (ps : List (Spot K)) (end : List (List I)) → Came stands rule fits weight so_far xs ps end → length so_far ≤ length end
  came_grow so_far [] [] end r = let e = ap length r in omega arith
  came_grow so_far [] (p ∷ ps) end r = absurd r
  came_grow so_far (x ∷ xs) [] end r = absurd r
  came_grow so_far (x ∷ xs) (p ∷ ps) end r = let a = comes_grow so_far x p r.0 r.1 in let b = came_grow r.0 xs ps end r.2 in omega arith

  -- the first spots are those of the first items, and make no more branches
  pub came_front : (n : ℕ) (so_far : List (List I)) (xs : List I) (ps : List (Spot K)) (end : List (List I)) → Came stands rule fits weight so_far xs ps end → (mid : List (List I)) × Came stands rule fits weight so_far (take n xs) (take n ps) mid × (length mid ≤ length end)
  came_front zero so_far xs ps end r = (so_far, refl, came_grow so_far xs ps end r)
  came_front (suc n) so_far [] [] end r = (so_far, refl, came_grow so_far [] [] end r)
  came_front (suc n) so_far [] (p ∷ ps) end r = absurd r
  came_front (suc n) so_far (x ∷ xs) [] end r = absurd r
  came_front (suc n) so_far (x ∷ xs) (p ∷ ps) end r = let q = came_front n r.0 xs ps end r.2 in (q.0, (r.0, r.1, q.1), q.2)

  pub traced_long : (items : List I) (ks : List K) (places : List ℕ) → Traced stands rule fits weight items ks places → length places ≡ length items
  traced_long items ks places s = sym (spots_long ks places s.paired) ∙ came_long [] items (spots ks places) s.branches s.came

  pub traced_front : (n : ℕ) (items : List I) (ks : List K) (places : List ℕ) → n ≤ length places → Traced stands rule fits weight items ks places → Traced stands rule fits weight (take n items) (take (2 * n) ks) (take n places)
  traced_front n items ks places w s =
      let q = came_front n [] items (spots ks places) s.branches s.came in
      let f = s.few in
      let l = q.2 in
      record {
        branches = q.0;
        came = subst (λ ps. Came stands rule fits weight [] (take n items) ps q.0) (sym (spots_take n ks places)) q.1;
        few = omega arith;
        paired = paired_take n ks places s.paired w;
      }

  pub traced : (items : List I) (ks : List K) (places : List ℕ) (folds : List (Fold K)) → Stand stands rule fits weight items ks places folds → Traced stands rule fits weight items ks places
  traced items ks places folds s = record { branches = s.branches; came = s.came; few = s.few; paired = s.paired }

  pub stand_of : (items : List I) (ks : List K) (places : List ℕ) (folds : List (Fold K)) (s : Traced stands rule fits weight items ks places) → AllStand stands items ks folds s.branches → Stand stands rule fits weight items ks places folds
  stand_of items ks places folds s each =
      record {
        branches = s.branches;
        placed = came_placed [] items (spots ks places) s.branches s.came;
        few = s.few;
        each = each;
        came = s.came;
        paired = s.paired;
      }

-- what stood stands
pub came_keep : {K I : Type 0} (old new : K → List I → Type 0) (rule : Placing) (fits : List I → Type 0) (weight : List I → ℕ → Type 0) → Keeps old new → (so_far : List (List I)) (xs : List I) (ps : List (Spot K)) (end : List (List I)) → Came old rule fits weight so_far xs ps end → Came new rule fits weight so_far xs ps end
came_keep old new rule fits weight k so_far [] [] end r = r
came_keep old new rule fits weight k so_far [] (p ∷ ps) end r = r
came_keep old new rule fits weight k so_far (x ∷ xs) [] end r = r
came_keep old new rule fits weight k so_far (x ∷ xs) (p ∷ ps) end r =
    let s = r.1 in
    (r.0, record { one = k p.one (x ∷ []) s.one; list = s.list; kept = k p.kept s.list s.kept; how = s.how }, came_keep old new rule fits weight k r.0 xs ps end r.2)

module _ {K I : Type 0} (old new : K → List I → Type 0) (rule : Placing) (fits : List I → Type 0) (weight : List I → ℕ → Type 0) (keeps : Keeps old new) (items : List I) (ks : List K) where
  branch_keeps : (f : Fold K) (b : List I) → BranchStands old items ks f b → BranchStands new items ks f b
  branch_keeps f b s = record { kept = keeps f.kept b s.kept; picked = s.picked; listed = (s.listed.0, s.listed.1, keeps s.listed.0 b s.listed.2) }

  pub all_keep : (folds : List (Fold K)) (bs : List (List I)) → AllStand old items ks folds bs → AllStand new items ks folds bs
  all_keep folds bs z = zip_weaker (BranchStands old items ks) (BranchStands new items ks) branch_keeps folds bs z

  pub traced_keeps : (places : List ℕ) → Traced old rule fits weight items ks places → Traced new rule fits weight items ks places
  traced_keeps places s = record { branches = s.branches; came = came_keep old new rule fits weight keeps [] items (spots ks places) s.branches s.came; few = s.few; paired = s.paired }

  pub stand_keeps : (places : List ℕ) (folds : List (Fold K)) → Stand old rule fits weight items ks places folds → Stand new rule fits weight items ks places folds
  stand_keeps places folds s =
      record {
        branches = s.branches;
        placed = s.placed;
        few = s.few;
        each = all_keep folds s.branches s.each;
        came = came_keep old new rule fits weight keeps [] items (spots ks places) s.branches s.came;
        paired = s.paired;
      }

-- each value of the first list stands at its place in the second
abbrev pub Leads : {K : Type 0} → List K → List K → Type 0
Leads {K} ks ks' = (i : ℕ) (k : K) → slice_get ks i ≡ Some k → slice_get ks' i ≡ Some k

-- more items and more values leave the branches of the first ones
pub all_more : {K I : Type 0} (stands : K → List I → Type 0) (items more : List I) (ks ks' : List K) → Leads ks ks' → (folds : List (Fold K)) (bs : List (List I)) → AllStand stands items ks folds bs → AllStand stands (items ++ more) ks' folds bs
all_more {K} {I} stands items more ks ks' leads folds bs z = zip_weaker (BranchStands stands items ks) (BranchStands stands (items ++ more) ks') later folds bs z
  where
    later : (f : Fold K) (b : List I) → BranchStands stands items ks f b → BranchStands stands (items ++ more) ks' f b
    later f b s =
        record {
          kept = s.kept;
          picked = zip_weaker (λ i x. slice_get items i ≡ Some x) (λ i x. slice_get (items ++ more) i ≡ Some x) (λ i x h. get_front items more i x h) f.items b s.picked;
          listed = (s.listed.0, leads f.place s.listed.0 s.listed.1, s.listed.2);
        }

module _ {K I : Type 0} (stands : K → List I → Type 0) (items : List I) (x : I) (ks ks' : List K) (leads : Leads ks ks') (folds : List (Fold K)) (bs : List (List I)) (z : AllStand stands items ks folds bs) (g : Fold K) (v : K) (kept : g.kept ≡ v) (listed : slice_get ks' g.place ≡ Some v) where
  -- the folds of the items and one more, whose fold f becomes g
  pub all_joined : (i : ℕ) (f : Fold K) (b : List I) → slice_get folds i ≡ Some f → slice_get bs i ≡ Some b → stands v (b ++ x ∷ []) → g.items ≡ f.items ++ length items ∷ [] → AllStand stands (items ++ x ∷ []) ks' (set folds i g) (set bs i (b ++ x ∷ []))
  all_joined i f b at here st gi =
      let more = all_more stands items (x ∷ []) ks ks' leads folds bs z in
      let q = zip_some (BranchStands stands (items ++ x ∷ []) ks') folds bs i f more at in
      let same : q.0 ≡ b = (let p : Some q.0 ≡ Some b = sym q.1 ∙ here in cc) in
      let picked = (let P : List I → Type 0 = λ v. AllZip (λ i x'. slice_get (items ++ x ∷ []) i ≡ Some x') f.items v in subst P same q.2.picked) in
      let all = zip_push (λ i x'. slice_get (items ++ x ∷ []) i ≡ Some x') f.items b (length items) x picked (get_next items x) in
      zip_set (BranchStands stands (items ++ x ∷ []) ks') folds bs i g (b ++ x ∷ []) more (record { kept = rw kept st; picked = rw gi all; listed = (v, listed, st) })

  pub all_opened : stands v (x ∷ []) → g.items ≡ length items ∷ [] → AllStand stands (items ++ x ∷ []) ks' (folds ++ g ∷ []) (bs ++ (x ∷ []) ∷ [])
  all_opened st gi =
      zip_push (BranchStands stands (items ++ x ∷ []) ks') folds bs g (x ∷ []) (all_more stands items (x ∷ []) ks ks' leads folds bs z)
      (record { kept = rw kept st; picked = rw gi (get_next items x, tt); listed = (v, listed, st) })

pub kept_stand : {K I : Type 0} (stands : K → List I → Type 0) (items : List I) (ks : List K) (folds : List (Fold K)) (bs : List (List I)) → AllStand stands items ks folds bs → KeptStand stands folds bs
kept_stand stands items ks folds bs z = zip_weaker (BranchStands stands items ks) (λ f b. stands f.kept b) (λ f b s. s.kept) folds bs z

module _ {K I : Type 0} (old new : K → List I → Type 0) (rule : Placing) (fits : List I → Type 0) (weight : List I → ℕ → Type 0) (keeps : Keeps old new) (single : K) (seen : List I) (x : I) (ks : List K) (places : List ℕ) (before : List (Fold K)) (s : Stand old rule fits weight seen ks places before) (st : old single (x ∷ [])) where
  leads_on : (kept : K) → Leads ks (ks ++ single ∷ kept ∷ [])
  leads_on kept i k h = get_front ks (single ∷ kept ∷ []) i k h

  paired_on : (kept : K) (n : ℕ) → length (ks ++ single ∷ kept ∷ []) ≡ 2 * length (places ++ n ∷ [])
  paired_on kept n =
      let a = length-append ks (single ∷ kept ∷ []) in
      let b = length_push places n in
      let p = s.paired in
      omega arith

  -- one spot more
  traced_more : (kept : K) (n : ℕ) (next : List (List I)) → ComesTo new rule fits weight s.branches x (record { one = single; branch = n; kept = kept }) next → length next ≤ 8 → Traced new rule fits weight (seen ++ x ∷ []) (ks ++ single ∷ kept ∷ []) (places ++ n ∷ [])
  traced_more kept n next c few =
      let p : Spot K = record { one = single; branch = n; kept = kept } in
      record {
        branches = next;
        came = subst (λ ps. Came new rule fits weight [] (seen ++ x ∷ []) ps next) (sym (spots_push ks places single kept n s.paired))
            (came_more new rule fits weight [] seen (spots ks places) s.branches next x p (came_keep old new rule fits weight keeps [] seen (spots ks places) s.branches s.came) c);
        few = few;
        paired = paired_on kept n;
      }

  kept_on : AllStand new seen ks before s.branches
  kept_on = all_keep old new rule fits weight keeps seen ks before s.branches s.each

  long : length places ≡ length seen
  long = traced_long old rule fits weight seen ks places (traced old rule fits weight seen ks places before s)

  pub stand_joined : (i : ℕ) (kept : K) (place : ℕ) (after : List (Fold K)) (f g : Fold K) → IsChosen new rule fits weight s.branches x i kept → place ≡ length ks + 1 → slice_get before i ≡ Some f → after ≡ set before i g → g.kept ≡ kept → g.items ≡ f.items ++ length places ∷ [] → g.place ≡ place → Stand new rule fits weight (seen ++ x ∷ []) (ks ++ single ∷ kept ∷ []) (places ++ i ∷ []) after
  unfolding traced_more
  stand_joined i kept place after f g h place_is at is gk gi gp =
      let bs = s.branches in
      let p : Spot K = record { one = single; branch = i; kept = kept } in
      let c : ComesTo new rule fits weight bs x p (set bs i (h.branch ++ x ∷ [])) = record {
        one = keeps single (x ∷ []) st;
        list = h.branch ++ x ∷ [];
        kept = h.stand;
        how = inr (h.branch, h.goes, refl, refl);
      } in
      let few = s.few in
      let l = length-set bs i (h.branch ++ x ∷ []) in
      let listed = subst (λ n. slice_get (ks ++ single ∷ kept ∷ []) n ≡ Some kept) (sym (gp ∙ place_is)) (get_second ks single kept) in
      let z = all_joined new seen x ks (ks ++ single ∷ kept ∷ []) (leads_on kept) before bs kept_on g kept gk listed i f h.branch at h.goes.here h.stand (gi ∙ ap (λ n. f.items ++ n ∷ []) long) in
      stand_of new rule fits weight (seen ++ x ∷ []) (ks ++ single ∷ kept ∷ []) (places ++ i ∷ []) after (traced_more kept i (set bs i (h.branch ++ x ∷ [])) c (omega arith)) (rw is z)

  pub stand_opened : (place : ℕ) (after : List (Fold K)) (g : Fold K) (n : ℕ) → n ≡ length before → (n ≡ 8 → ⊥) → NoneFits fits s.branches x → place ≡ length ks + 1 → after ≡ before ++ g ∷ [] → g.kept ≡ single → g.items ≡ length places ∷ [] → g.place ≡ place → Stand new rule fits weight (seen ++ x ∷ []) (ks ++ single ∷ single ∷ []) (places ++ n ∷ []) after
  unfolding traced_more
  stand_opened place after g n count less none place_is is gk gi gp =
      let bs = s.branches in
      let p : Spot K = record { one = single; branch = n; kept = single } in
      let lb = zip_lengths (BranchStands old seen ks) before bs s.each in
      let c : ComesTo new rule fits weight bs x p (bs ++ (x ∷ []) ∷ []) = record {
        one = keeps single (x ∷ []) st;
        list = x ∷ [];
        kept = keeps single (x ∷ []) st;
        how = inl (count ∙ sym lb, refl, refl, none);
      } in
      let l = length_push bs (x ∷ []) in
      let few = s.few in
      let listed = subst (λ n. slice_get (ks ++ single ∷ single ∷ []) n ≡ Some single) (sym (gp ∙ place_is)) (get_second ks single single) in
      let z = all_opened new seen x ks (ks ++ single ∷ single ∷ []) (leads_on single) before bs kept_on g single gk listed (keeps single (x ∷ []) st) (gi ∙ ap (λ n. n ∷ []) long) in
      stand_of new rule fits weight (seen ++ x ∷ []) (ks ++ single ∷ single ∷ []) (places ++ n ∷ []) after (traced_more single n (bs ++ (x ∷ []) ∷ []) c (omega arith)) (rw is z)

  pub opens_ninth : (n : ℕ) → n ≡ length before → n ≡ 8 → NoneFits fits s.branches x → OpensNinth rule fits weight seen x
  opens_ninth n count eight none =
      let lb = zip_lengths (BranchStands old seen ks) before s.branches s.each in
      record { branches = s.branches; placed = s.placed; eight = lb ∙ sym count ∙ eight; none = none }

pub few_folds : {K I : Type 0} (stands : K → List I → Type 0) (rule : Placing) (fits : List I → Type 0) (weight : List I → ℕ → Type 0) (items : List I) (ks : List K) (places : List ℕ) (folds : List (Fold K)) → Stand stands rule fits weight items ks places folds → length folds ≤ 8
few_folds stands rule fits weight items ks places folds s =
    let l = zip_lengths (BranchStands stands items ks) folds s.branches s.each in
    let f = s.few in
    omega arith

pub few_steps : {X : Type 0} (n m : ℕ) (slice all : List X) → slice ≡ all → m ≤ n + length slice → length all ≤ 8 → m ≤ n + 8
few_steps n m slice all e h f = let l = ap length e in omega arith

-- the folds of no items
pub stand_start : {K I : Type 0} (stands : K → List I → Type 0) (rule : Placing) (fits : List I → Type 0) (weight : List I → ℕ → Type 0) (ks : List K) (places : List ℕ) (folds : List (Fold K)) → ks ≡ [] → places ≡ [] → folds ≡ [] → Stand stands rule fits weight [] ks places folds
stand_start stands rule fits weight ks places folds d e f =
    rw (d, e, f) (record { branches = []; placed = refl; few = omega arith; each = tt; came = refl; paired = refl })
