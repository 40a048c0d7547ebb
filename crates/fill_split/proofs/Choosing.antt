-- the search for the branch that an item goes to
use Rattle.std.proofs.Common.{◌≡◌, ◌≢◌, ℕ, ◌+◌, ◌<◌, ◌≤◌, ◌⊎◌, ⊎_elim, List, [], ◌∷◌, ◌++◌, length, Option, Some, None, sym, ap, ◌∙◌, subst, arith}
use Rattle.std.specs.Prelude.{slice_get, IfSome, MatchOption}
use Rattle.std.proofs.lemmas.Option.{slice_get_within}
use Rattle.std.proofs.lemmas.Bool.{cases_lt, cases_eq}
use Rattle.fill_split.specs.declared.rule.Placing.{Placing}
use Rattle.fill_split.specs.declared.rule.Placing.TheVariants.{First, Lightest}
use Rattle.fill_split.specs.declared.folds.Fold.{Fold}
use Rattle.fill_split.specs.declared.find.Choice.{Choice}
use Rattle.fill_split.specs.Keeping.{Keeps}
use Rattle.fill_split.specs.Placement.{GoesTo, NoneFits, Prefers}
use Rattle.fill_split.specs.Standing.{KeptStand}
use Rattle.fill_split.specs.Choices.{IsChosen, IsFor, IsLighter}
use Rattle.fill_split.proofs.Zips.{zip_lengths, zip_some}

-- none of the first i branches fits together with the item
abbrev pub NoneBelow : {I : Type 0} → (List I → Type 0) → List (List I) → I → ℕ → Type 0
NoneBelow {I} fits bs x i = (j : ℕ) (c : List I) → j < i → slice_get bs j ≡ Some c → fits (c ++ x ∷ []) → ⊥

-- both lists weigh something, and the second weighs no less, or more where it stands earlier
abbrev pub IsOutweighed : {I : Type 0} → (List I → ℕ → Type 0) → List I → List I → Type 0 → Type 0
IsOutweighed weight l m Earlier = (w : ℕ) × (v : ℕ) × weight l w × weight m v × ((u : ℕ) → weight m u → (w ≤ u) × (Earlier → w < u))

-- of the first i branches that fit together with the item, b at place k is the first of least weight
pub record IsBest {I : Type 0} (fits : List I → Type 0) (weight : List I → ℕ → Type 0) (bs : List (List I)) (x : I) (i k : ℕ) (b : List I) : Type 0 where
  pub below : k < i
  pub here : slice_get bs k ≡ Some b
  pub fitting : fits (b ++ x ∷ [])
  pub others : (j : ℕ) (c : List I) → j < i → j ≢ k → slice_get bs j ≡ Some c → fits (c ++ x ∷ []) → IsOutweighed weight (b ++ x ∷ []) (c ++ x ∷ []) (j < k)

module _ {I : Type 0} (fits : List I → Type 0) (weight : List I → ℕ → Type 0) (bs : List (List I)) (x : I) where
  same_list : (j i : ℕ) (d c : List I) → j ≡ i → slice_get bs j ≡ Some d → slice_get bs i ≡ Some c → d ≡ c
  same_list j i d c e h at = let p : Some d ≡ Some c = sym h ∙ ap (λ n. slice_get bs n) e ∙ at in cc

  -- once all are looked at, the rule prefers it
  prefers_best : (i k : ℕ) (b : List I) → IsBest fits weight bs x i k b → length bs ≤ i → Prefers Lightest fits weight bs x k b
  prefers_best i k b s all = λ j c ne h f. let l = slice_get_within bs j c h in s.others j c (omega arith) ne h f

  module _ (i : ℕ) (c : List I) (at : slice_get bs i ≡ Some c) where
    none_more : NoneBelow fits bs x i → (fits (c ++ x ∷ []) → ⊥) → NoneBelow fits bs x (i + 1)
    none_more none n =
        λ j d l h f.
        ⊎_elim
        (λ m. none j d m h f)
        (λ m. let e : j ≡ i = omega arith in n (subst (λ v. fits (v ++ x ∷ [])) (same_list j i d c e h at) f))
        (cases_lt j i)

    best_skip : (k : ℕ) (b : List I) → IsBest fits weight bs x i k b → (fits (c ++ x ∷ []) → ⊥) → IsBest fits weight bs x (i + 1) k b
    best_skip k b s n =
        record {
          below = let l = s.below in omega arith;
          here = s.here;
          fitting = s.fitting;
          others = λ j d l ne h f.
              ⊎_elim
              (λ m. s.others j d m ne h f)
              (λ m. let e : j ≡ i = omega arith in absurd (n (subst (λ u. fits (u ++ x ∷ [])) (same_list j i d c e h at) f)))
              (cases_lt j i);
        }

    best_first : fits (c ++ x ∷ []) → NoneBelow fits bs x i → IsBest fits weight bs x (i + 1) i c
    best_first fit none =
        record {
          below = omega arith;
          here = at;
          fitting = fit;
          others = λ j d l ne h f.
              ⊎_elim
              (λ m. absurd (none j d m h f))
              (λ m. let e : j ≡ i = omega arith in absurd (ne e))
              (cases_lt j i);
        }

    module _ (one : (l : List I) (v w : ℕ) → weight l v → weight l w → v ≡ w) (k : ℕ) (b : List I) (s : IsBest fits weight bs x i k b) (w v : ℕ) (bw : weight (b ++ x ∷ []) w) (cv : weight (c ++ x ∷ []) v) where
      keep_here : w ≤ v → (j : ℕ) (d : List I) → j ≡ i → d ≡ c → IsOutweighed weight (b ++ x ∷ []) (d ++ x ∷ []) (j < k)
      keep_here le j d e same =
          let dv : weight (d ++ x ∷ []) v = subst (λ l. weight (l ++ x ∷ []) v) (sym same) cv in
          let below = s.below in
          (w, v, bw, dv, λ u g. let q = one (d ++ x ∷ []) u v g dv in (omega arith, λ n. absurd (omega arith)))

      best_keep : w ≤ v → IsBest fits weight bs x (i + 1) k b
      best_keep le =
          let below = s.below in
          record {
            below = omega arith;
            here = s.here;
            fitting = s.fitting;
            others = λ j d l ne h f.
                ⊎_elim
                (λ m. s.others j d m ne h f)
                (λ m. let e : j ≡ i = omega arith in keep_here le j d e (same_list j i d c e h at))
                (cases_lt j i);
          }

      replace_best : v < w → (d : List I) (Earlier : Type 0) → d ≡ b → IsOutweighed weight (c ++ x ∷ []) (d ++ x ∷ []) Earlier
      replace_best lt d Earlier same =
          let dw : weight (d ++ x ∷ []) w = subst (λ l. weight (l ++ x ∷ []) w) (sym same) bw in
          (v, w, cv, dw, λ u g. let q = one (d ++ x ∷ []) u w g dw in (omega arith, λ n. omega arith))

      replace_other : v < w → (d : List I) (Before Earlier : Type 0) → IsOutweighed weight (b ++ x ∷ []) (d ++ x ∷ []) Before → IsOutweighed weight (c ++ x ∷ []) (d ++ x ∷ []) Earlier
      replace_other lt d Before Earlier o =
          let q = one (b ++ x ∷ []) o.0 w o.2 bw in
          (v, o.1, cv, o.3, λ u g. let r = (o.4 u g).0 in (omega arith, λ n. omega arith))

      best_replace : fits (c ++ x ∷ []) → v < w → IsBest fits weight bs x (i + 1) i c
      best_replace fit lt =
          record {
            below = omega arith;
            here = at;
            fitting = fit;
            others = λ j d l ne h f.
                ⊎_elim
                (λ m.
                ⊎_elim
                (λ e. replace_best lt d (j < i) (same_list j k d b e h s.here))
                (λ other. replace_other lt d (j < k) (j < i) (s.others j d m other h f))
                (cases_eq j k))
                (λ m. let e : j ≡ i = omega arith in absurd (ne e))
                (cases_lt j i);
          }

-- what is known of the first i branches, where the best so far is that: none of them fits, or it is the first of least weight
abbrev pub Yet : {K I : Type 0} → (K → List I → Type 0) → (List I → Type 0) → (List I → ℕ → Type 0) → List (List I) → I → ℕ → Option (Choice K) → Type 0
Yet {K} {I} now fits weight bs x i best = MatchOption best (NoneBelow fits bs x i) (λ c. (b : List I) × IsBest fits weight bs x i c.branch b × IsFor now weight c (b ++ x ∷ []))

-- the same of all lists that the folds can stand for. There is a best so far only under the rule of weight
pub record ChosenYet {K I : Type 0} (stands now : K → List I → Type 0) (rule : Placing) (fits : List I → Type 0) (weight : List I → ℕ → Type 0) (folds : List (Fold K)) (single : K) (i : ℕ) (best : Option (Choice K)) : Type 0 where
  pub by_weight : IfSome best (λ c. rule ≡ Lightest)
  pub live : IfSome best (λ c. (l : List I) × now c.kept l)
  pub yet : (bs : List (List I)) (x : I) → KeptStand stands folds bs → stands single (x ∷ []) → Yet now fits weight bs x i best

module _ {K I : Type 0} (stands : K → List I → Type 0) (rule : Placing) (fits : List I → Type 0) (weight : List I → ℕ → Type 0) (folds : List (Fold K)) (single : K) where
  pub yet_start : ChosenYet stands stands rule fits weight folds single 0 None
  yet_start = record { by_weight = tt; live = tt; yet = λ bs x z s j c l h f. absurd (omega arith) }

  abbrev End : (K → List I → Type 0) → List (List I) → I → Option (Choice K) → Type 0
  End now bs x best = MatchOption best (NoneFits fits bs x) (λ c. IsChosen now rule fits weight bs x c.branch c.kept)

  module _ (now : K → List I → Type 0) (i : ℕ) where
    end_of : (best : Option (Choice K)) (bs : List (List I)) (x : I) → length bs ≤ i → IfSome best (λ c. rule ≡ Lightest) → Yet now fits weight bs x i best → End now bs x best
    end_of None bs x l by h = λ j b e. let w = slice_get_within bs j b e in h j b (omega arith) e
    end_of (Some c) bs x l by h =
        record {
          branch = h.0;
          goes = record { here = h.1.here; fitting = h.1.fitting; preferred = subst (λ r. Prefers r fits weight bs x c.branch h.0) (sym by) (prefers_best fits weight bs x i c.branch h.0 h.1 l) };
          stand = h.2.kept;
        }

    -- all branches are looked at
    pub yet_end : (best : Option (Choice K)) → length folds ≤ i → ChosenYet stands now rule fits weight folds single i best → (bs : List (List I)) (x : I) → KeptStand stands folds bs → stands single (x ∷ []) → End now bs x best
    yet_end best h s bs x z t = let l = zip_lengths (λ f b. stands f.kept b) folds bs z in end_of best bs x (omega arith) s.by_weight (s.yet bs x z t)

    -- the best so far in a later maker
    live_still : (next : K → List I → Type 0) → Keeps now next → (best : Option (Choice K)) → IfSome best (λ c. (l : List I) × now c.kept l) → IfSome best (λ c. (l : List I) × next c.kept l)
    live_still next newer None h = tt
    live_still next newer (Some c) h = (h.0, newer c.kept h.0 h.1)

    module _ (next : K → List I → Type 0) (newer : Keeps now next) (older : Keeps stands now) (f : Fold K) (at : slice_get folds i ≡ Some f) where
      for_still : (c : Choice K) (l : List I) → IsFor now weight c l → IsFor next weight c l
      for_still c l h = record { kept = newer c.kept l h.kept; noted = h.noted }

      skip : (best : Option (Choice K)) (bs : List (List I)) (x : I) (c : List I) → slice_get bs i ≡ Some c → (fits (c ++ x ∷ []) → ⊥) → Yet now fits weight bs x i best → Yet next fits weight bs x (i + 1) best
      skip None bs x c e n h = none_more fits weight bs x i c e h n
      skip (Some b) bs x c e n h = (h.0, best_skip fits weight bs x i c e b.branch h.0 h.1 n, for_still b (h.0 ++ x ∷ []) h.2)

      -- the next branch does not fit
      pub yet_skip : (best : Option (Choice K)) → ChosenYet stands now rule fits weight folds single i best → ((k l : List I) → now f.kept k → now single l → fits (k ++ l) → ⊥) → ChosenYet stands next rule fits weight folds single (i + 1) best
      yet_skip best s n =
          record {
            by_weight = s.by_weight;
            live = live_still next newer best s.live;
            yet = λ bs x z t.
                let q = zip_some (λ f b. stands f.kept b) folds bs i f z at in
                skip best bs x q.0 q.1 (n q.0 (x ∷ []) (older f.kept q.0 q.2) (older single (x ∷ []) t)) (s.yet bs x z t);
          }

      module _ (new : Choice K) (place : new.branch ≡ i) (bare : new.weight ≡ None) (fit : (l : List I) → next new.kept l → fits l) (joins : (k l : List I) → now f.kept k → now single l → next new.kept (k ++ l)) where
        new_for : (l : List I) → next new.kept l → IsFor next weight new l
        new_for l s = record { kept = s; noted = subst (λ o. IfSome o (λ w. weight l w)) (sym bare) tt }

        first_of : rule ≡ First → (best : Option (Choice K)) → IfSome best (λ c. rule ≡ Lightest) → (bs : List (List I)) (x : I) (c : List I) → slice_get bs i ≡ Some c → next new.kept (c ++ x ∷ []) → Yet now fits weight bs x i best → IsChosen next rule fits weight bs x new.branch new.kept
        first_of is None by bs x c e stand none =
            record {
              branch = c;
              goes = subst (λ k. GoesTo rule fits weight bs x k c) (sym place) (record { here = e; fitting = fit (c ++ x ∷ []) stand; preferred = subst (λ r. Prefers r fits weight bs x i c) (sym is) none });
              stand = stand;
            }
        first_of is (Some b) by bs x c e stand h = let p : First ≡ Lightest = sym is ∙ by in absurd cc

        -- the next branch fits, and the first one is taken
        pub yet_first : rule ≡ First → (best : Option (Choice K)) → ChosenYet stands now rule fits weight folds single i best → (bs : List (List I)) (x : I) → KeptStand stands folds bs → stands single (x ∷ []) → IsChosen next rule fits weight bs x new.branch new.kept
        yet_first is best s bs x z t =
            let q = zip_some (λ f b. stands f.kept b) folds bs i f z at in
            first_of is best s.by_weight bs x q.0 q.1 (joins q.0 (x ∷ []) (older f.kept q.0 q.2) (older single (x ∷ []) t)) (s.yet bs x z t)

        module _ (one : (l : List I) (v w : ℕ) → weight l v → weight l w → v ≡ w) where
          more : (best : Option (Choice K)) (after : Choice K) (bs : List (List I)) (x : I) (c : List I) → slice_get bs i ≡ Some c → next new.kept (c ++ x ∷ []) → MatchOption best (after ≡ new) (λ b. IsLighter next weight b new after) → Yet now fits weight bs x i best → (b : List I) × IsBest fits weight bs x (i + 1) after.branch b × IsFor next weight after (b ++ x ∷ [])
          more None after bs x c e stand is h =
              let best = best_first fits weight bs x i c e (fit (c ++ x ∷ []) stand) h in
              subst (λ (a : Choice K). (b : List I) × IsBest fits weight bs x (i + 1) a.branch b × IsFor next weight a (b ++ x ∷ [])) (sym is)
              (c, subst (λ p. IsBest fits weight bs x (i + 1) p c) (sym place) best, new_for (c ++ x ∷ []) stand)
          more (Some b) after bs x c e stand is h =
              let own = for_still b (h.0 ++ x ∷ []) h.2 in
              let bw = is.2 (h.0 ++ x ∷ []) own in
              let cv = is.3 (c ++ x ∷ []) (new_for (c ++ x ∷ []) stand) in
              ⊎_elim
              (λ l.
              subst (λ (a : Choice K). (b : List I) × IsBest fits weight bs x (i + 1) a.branch b × IsFor next weight a (b ++ x ∷ [])) (sym l.1)
              (h.0, best_keep fits weight bs x i c e one b.branch h.0 h.1 is.0 is.1 bw cv l.0, record { kept = own.kept; noted = bw }))
              (λ l.
              let best = best_replace fits weight bs x i c e one b.branch h.0 h.1 is.0 is.1 bw cv (fit (c ++ x ∷ []) stand) l.0 in
              subst (λ (a : Choice K). (b : List I) × IsBest fits weight bs x (i + 1) a.branch b × IsFor next weight a (b ++ x ∷ [])) (sym l.1)
              (c, subst (λ p. IsBest fits weight bs x (i + 1) p c) (sym place) best, record { kept = stand; noted = cv }))
              is.4

          lives : (best : Option (Choice K)) (after : Choice K) → IfSome best (λ c. (l : List I) × next c.kept l) → (l : List I) × next new.kept l → MatchOption best (after ≡ new) (λ b. IsLighter next weight b new after) → (l : List I) × next after.kept l
          lives None after own stand is = subst (λ (a : Choice K). (l : List I) × next a.kept l) (sym is) stand
          lives (Some b) after own stand is =
              ⊎_elim
              (λ e. subst (λ (a : Choice K). (l : List I) × next a.kept l) (sym e.1) own)
              (λ e. subst (λ (a : Choice K). (l : List I) × next a.kept l) (sym e.1) stand)
              is.4

          -- the next branch fits, and the lighter one is taken
          pub yet_more : rule ≡ Lightest → (best : Option (Choice K)) (after : Choice K) → (l : List I) × next new.kept l → MatchOption best (after ≡ new) (λ b. IsLighter next weight b new after) → ChosenYet stands now rule fits weight folds single i best → ChosenYet stands next rule fits weight folds single (i + 1) (Some after)
          yet_more rules best after stand is s =
              record {
                by_weight = rules;
                live = lives best after (live_still next newer best s.live) stand is;
                yet = λ bs x z t.
                    let q = zip_some (λ f b. stands f.kept b) folds bs i f z at in
                    more best after bs x q.0 q.1 (joins q.0 (x ∷ []) (older f.kept q.0 q.2) (older single (x ∷ []) t)) is (s.yet bs x z t);
              }

-- the best so far is one of the branches that were looked at
pub within_more : {K I : Type 0} (stands : K → List I → Type 0) (weight : List I → ℕ → Type 0) (i : ℕ) (best : Option (Choice K)) (new after : Choice K) → new.branch ≡ i → MatchOption best (Unit {0}) (λ c. c.branch < i) → MatchOption best (after ≡ new) (λ b. IsLighter stands weight b new after) → after.branch < i + 1
within_more {K} stands weight i None new after place w is = let e : after.branch ≡ new.branch = ap (λ (c : Choice K). c.branch) is in omega arith
within_more {K} stands weight i (Some b) new after place w is =
    ⊎_elim
    (λ l. let e : after.branch ≡ b.branch = ap (λ (c : Choice K). c.branch) l.1 in omega arith)
    (λ l. let e : after.branch ≡ new.branch = ap (λ (c : Choice K). c.branch) l.1 in omega arith)
    is.4

pub within_still : {K : Type 0} (i : ℕ) (best : Option (Choice K)) → MatchOption best (Unit {0}) (λ c. c.branch < i) → MatchOption best (Unit {0}) (λ c. c.branch < i + 1)
within_still i None w = tt
within_still i (Some b) w = omega arith
