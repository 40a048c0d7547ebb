-- Branches that are made one after the other, each with its guard against the later lists.
use Rattle.std.proofs.Common.{◌≡◌, ℕ, zero, suc, ◌+◌, ◌<◌, ◌≤◌, List, [], ◌∷◌, ◌++◌, length, take, drop, get_or, Bool, true, false, Some, Option, refl, sym, ap, ◌∙◌, subst, append_assoc, arith}
use Rattle.std.specs.Prelude.{slice_get, All}
use Rattle.std.specs.List.{AllZip}
use Rattle.std.proofs.lemmas.List.{take_all}
use Rattle.std.proofs.lemmas.List.Elements.{All-drop}
use Rattle.fill_guard.specs.Read.{IsRowOf}
use Rattle.fill_split.specs.declared.folds.Fold.{Fold}
use Rattle.fill_split.proofs.Zips.{zip_push, zip_some, zip_lengths, take_next}
use Rattle.fill_tree.specs.Meaning.{program_tree}
use Rattle.fill_tree.specs.Separate.{Separates, IsLeastGuard}
use Rattle.fill_tree.specs.declared.guard.Guard.{Guard}
use Rattle.fill_tree.specs.declared.user.Example.{Example}
use Rattle.fill_space.specs.declared.ground.Ground.{Ground}
use Rattle.fill_space.specs.Ground.{ChosenOn}
use Rattle.fill_space.specs.Spaces.{SpacesData, SpaceStands}
use Rattle.fill_session.specs.Branches.{BranchData, AreGuarded, IsGuardBefore, all_rows, lists_of}
use Rattle.fill_session.specs.Edits.{rows_of}
use Rattle.fill_session.specs.Fate.{CanBeGuarded}
use Rattle.fill_session.specs.Folded.{KeptFor, AreKept, AreBranchesOf, IsGuardOf, IsUnguarded, LacksGuard}
use Rattle.fill_session.specs.State.{Shows}
use Rattle.fill_session.specs.declared.branch.Branch.{Branch}
use Rattle.fill_session.specs.declared.error.EditError.{EditError}
use Rattle.fill_session.specs.declared.error.EditError.TheVariants as error
use Rattle.fill_session.proofs.Picked.{here}

-- each of these branches is guarded against the later ones and the lists after them
abbrev pub AreGuardedTo : Ground → List BranchData → List (List Example) → Type 0
AreGuardedTo g [] later = Unit {0}
AreGuardedTo g (b ∷ bs) later =
    IsGuardBefore g (rows_of b.examples) (lists_of bs ++ later) b.guard × ChosenOn g b.examples b.program × AreGuardedTo g bs later

lists_push : (bs : List BranchData) (b : BranchData) → lists_of (bs ++ b ∷ []) ≡ lists_of bs ++ b.examples ∷ []
lists_push [] b = refl
lists_push (c ∷ bs) b = ap (λ (v : List (List Example)). c.examples ∷ v) (lists_push bs b)

append_none : {X : Type 0} (xs : List X) → xs ++ [] ≡ xs
append_none [] = refl
append_none (x ∷ xs) = ap (λ v. x ∷ v) (append_none xs)

guarded_more : (g : Ground) (bs : List BranchData) (b : BranchData) (later : List (List Example)) → AreGuardedTo g bs (b.examples ∷ later)
    → IsGuardBefore g (rows_of b.examples) later b.guard → ChosenOn g b.examples b.program → AreGuardedTo g (bs ++ b ∷ []) later
guarded_more g [] b later h guard chosen = (guard, chosen, tt)
guarded_more g (c ∷ bs) b later h guard chosen =
    let same : lists_of bs ++ b.examples ∷ later ≡ lists_of (bs ++ b ∷ []) ++ later =
    sym (ap (λ (v : List (List Example)). v ++ later) (lists_push bs b) ∙ append_assoc (lists_of bs) (b.examples ∷ []) later) in
    (subst (λ ls. IsGuardBefore g (rows_of c.examples) ls c.guard) same h.0, h.1, guarded_more g bs b later h.2 guard chosen)

guarded_all : (g : Ground) (bs : List BranchData) → AreGuardedTo g bs [] → AreGuarded g bs
guarded_all g [] h = tt
guarded_all g (c ∷ bs) h = (subst (λ ls. IsGuardBefore g (rows_of c.examples) ls c.guard) (append_none (lists_of bs)) h.0, h.1, guarded_all g bs h.2)

-- a guard before some list tells the rows from those of the lists
some_guard : (g : Ground) (rows : List ℕ) (before : List (List Example)) (l : List Example) (later : List (List Example)) (guard : Option Guard) → IsGuardBefore g rows (before ++ l ∷ later) guard
    → (h : Guard) × Separates g.settings g.sheet rows (all_rows (before ++ l ∷ later)) h
some_guard g rows [] l later guard h = (h.0, h.2.separates)
some_guard g rows (b ∷ before) l later guard h = (h.0, h.2.separates)

guarded_earlier : (g : Ground) (bs : List BranchData) (l : List Example) (later : List (List Example)) → AreGuardedTo g bs (l ∷ later) → (j : ℕ) → j < length bs → CanBeGuarded g (lists_of bs ++ l ∷ later) j
guarded_earlier g [] l later h j lt = absurd (omega arith)
guarded_earlier g (c ∷ bs) l later h zero lt =
    let some = some_guard g (rows_of c.examples) (lists_of bs) l later c.guard h.0 in (c.examples, some.0, refl, some.1)
guarded_earlier g (c ∷ bs) l later h (suc j) lt =
    let rest = guarded_earlier g bs l later h.2 j (omega arith) in (rest.0, rest.1, rest.2, rest.3)

-- what is made of the first k lists, and the rows that are left
pub record MadeYet (g : Ground) (lists : List (List Example)) (k : ℕ) (rest : List ℕ) (made : List Branch) : Type 0 where
  pub left : rest ≡ all_rows (drop k lists)
  pub done : List BranchData
  pub shown : AllZip Shows made done
  pub of_lists : lists_of done ≡ take k lists
  pub guarded : AreGuardedTo g done (drop k lists)

-- .. of all lists that the folds are kept for
pub record Yet (s : SpacesData) (folds : List (Fold ℕ)) (rows rest : List ℕ) (k : ℕ) (made : List Branch) : Type 0 where
  pub yet : (lists : List (List Example)) → AreKept s folds lists → rows ≡ all_rows lists → MadeYet s.ground lists k rest made
  pub few : length rest ≤ 64
  pub each : All (IsRowOf s.ground.sheet) rest

-- nothing is made yet
pub yet_none : (s : SpacesData) (folds : List (Fold ℕ)) (rows : List ℕ) (made : List Branch) → made ≡ [] → length rows ≤ 64 → All (IsRowOf s.ground.sheet) rows → Yet s folds rows rows 0 made
yet_none s folds rows made none few each = record {
  yet = λ lists kept is. record { left = is; done = []; shown = subst (λ m. AllZip Shows m []) (sym none) tt; of_lists = refl; guarded = tt };
  few = few;
  each = each;
}

-- the list of a fold, and the lists after it
pub record ListAt (s : SpacesData) (lists : List (List Example)) (k : ℕ) (f : Fold ℕ) : Type 0 where
  pub list : List Example
  pub here : slice_get lists k ≡ Some list
  pub rest : drop k lists ≡ list ∷ drop (suc k) lists
  pub for : KeptFor s f list

drop_at : {X : Type 0} (xs : List X) (k : ℕ) (x : X) → slice_get xs k ≡ Some x → drop k xs ≡ x ∷ drop (suc k) xs
drop_at [] k x h = absurd cc
drop_at (a ∷ xs) zero x h = let e : a ≡ x = cc in ap (λ v. v ∷ xs) e
drop_at (a ∷ xs) (suc k) x h = drop_at xs k x h

pub list_of : (s : SpacesData) (folds : List (Fold ℕ)) (lists : List (List Example)) (k : ℕ) (f : Fold ℕ) → AreKept s folds lists → k < length folds → f ≡ get_or folds k f → ListAt s lists k f
list_of s folds lists k f kept lt is =
    let at : slice_get folds k ≡ Some f = here folds k f lt ∙ ap Some (sym is) in
    let found = zip_some (KeptFor s) folds lists k f kept at in
    record { list = found.0; here = found.1; rest = drop_at lists k found.0 found.1; for = found.2 }

rows_long : (list : List Example) → length (rows_of list) ≡ length list
rows_long [] = refl
rows_long (e ∷ list) = ap suc (rows_long list)

-- a front and what is after it
pub front_of : {X : Type 0} (xs ys : List X) (n : ℕ) → n ≡ length xs → take n (xs ++ ys) ≡ xs
front_of [] ys zero e = refl
front_of [] ys (suc n) e = absurd (omega arith)
front_of (x ∷ xs) ys zero e = absurd (omega arith)
front_of (x ∷ xs) ys (suc n) e = ap (λ v. x ∷ v) (front_of xs ys n (omega arith))

pub back_of : {X : Type 0} (xs ys : List X) (n : ℕ) → n ≡ length xs → drop n (xs ++ ys) ≡ ys
back_of [] ys zero e = refl
back_of [] ys (suc n) e = absurd (omega arith)
back_of (x ∷ xs) ys zero e = absurd (omega arith)
back_of (x ∷ xs) ys (suc n) e = back_of xs ys n (omega arith)

-- the rows of the next list, and those of the lists after it
pub record RowsAt (lists : List (List Example)) (k n : ℕ) (rest : List ℕ) (list : List Example) : Type 0 where
  pub inside : take n rest ≡ rows_of list
  pub outside : drop n rest ≡ all_rows (drop (suc k) lists)
  pub fits : n ≤ length rest

pub rows_at : (s : SpacesData) (lists : List (List Example)) (k : ℕ) (f : Fold ℕ) (n : ℕ) (rest : List ℕ) (at : ListAt s lists k f) → n ≡ length f.items → rest ≡ all_rows (drop k lists) → RowsAt lists k n rest at.list
rows_at s lists k f n rest at size left =
    let both : rest ≡ rows_of at.list ++ all_rows (drop (suc k) lists) = left ∙ ap (λ (v : List (List Example)). all_rows v) at.rest in
    let long : n ≡ length (rows_of at.list) = size ∙ (at.for).size ∙ sym (rows_long at.list) in
    record {
      inside = ap (λ (v : List ℕ). take n v) both ∙ front_of (rows_of at.list) (all_rows (drop (suc k) lists)) n long;
      outside = ap (λ (v : List ℕ). drop n v) both ∙ back_of (rows_of at.list) (all_rows (drop (suc k) lists)) n long;
      fits = subst (λ (v : List ℕ). n ≤ length v) (sym both) (longer (rows_of at.list) (all_rows (drop (suc k) lists)) n long);
    }
  where
    longer : {X : Type 0} (xs ys : List X) (n : ℕ) → n ≡ length xs → n ≤ length (xs ++ ys)
    longer [] ys n e = omega arith
    longer (x ∷ xs) ys zero e = omega arith
    longer (x ∷ xs) ys (suc n) e = let rest = longer xs ys n (omega arith) in omega arith

-- whether the fold is the last one
guard_before : (g : Ground) (inside outside : List ℕ) (later : List (List Example)) (last : Bool) (guard : Option Guard) → outside ≡ all_rows later → (last ≡ true → length later ≡ 0) → (last ≡ false → 0 < length later)
    → IsGuardOf g inside outside last guard → IsGuardBefore g inside later guard
guard_before g inside outside [] true guard is done more h = h
guard_before g inside outside (l ∷ later) true guard is done more h = absurd (let none = done refl in omega arith)
guard_before g inside outside [] false guard is done more h = absurd (let some = more refl in omega arith)
guard_before g inside outside (l ∷ later) false guard is done more h = (h.0, h.1, subst (λ v. IsLeastGuard g.settings g.sheet inside v h.0) is h.2)

pub left_after : (s : SpacesData) (folds : List (Fold ℕ)) (lists : List (List Example)) (k : ℕ) → AreKept s folds lists → k < length folds → suc k + length (drop (suc k) lists) ≡ length folds
left_after s folds lists k kept lt = go lists k (let size = zip_lengths (KeptFor s) folds lists kept in omega arith) ∙ zip_lengths (KeptFor s) folds lists kept
  where
    go : {X : Type 0} (xs : List X) (k : ℕ) → k < length xs → suc k + length (drop (suc k) xs) ≡ length xs
    go [] k lt = absurd (omega arith)
    go (x ∷ xs) zero lt = omega arith
    go (x ∷ xs) (suc k) lt = let rest = go xs k (omega arith) in omega arith

-- one more branch is made
module _ (s : SpacesData) (folds : List (Fold ℕ)) (rows rest inside outside : List ℕ) (k n : ℕ) (f : Fold ℕ) (last : Bool)
    (lt : k < length folds) (at : f ≡ get_or folds k f) (size : n ≡ length f.items) (front : inside ≡ take n rest) (back : outside ≡ drop n rest) where
  pub yet_more : (made next : List Branch) (x : Branch) → Yet s folds rows rest k made → (last ≡ true → k + 1 ≡ length folds) → (last ≡ false → k + 1 ≡ length folds → ⊥)
      → x.rows ≡ inside → IsGuardOf s.ground inside outside last x.guard → ((list : List Example) → SpaceStands s f.kept list → ChosenOn s.ground list (program_tree x.program))
      → next ≡ made ++ x ∷ [] → Yet s folds rows outside (k + 1) next
  yet_more made next x yet done more is_rows guard chosen after = record {
    yet = λ lists kept is.
        let before = yet.yet lists kept is in
        let here = list_of s folds lists k f kept lt at in
        let split = rows_at s lists k f n rest here size before.left in
        let size_left = left_after s folds lists k kept lt in
        let in_list : inside ≡ rows_of here.list = front ∙ split.inside in
        let out_list : outside ≡ all_rows (drop (suc k) lists) = back ∙ split.outside in
        let step : k + 1 ≡ suc k = omega arith in
        let b : BranchData = record { examples = here.list; guard = x.guard; program = program_tree x.program } in
        let guarded : IsGuardBefore s.ground (rows_of here.list) (drop (suc k) lists) x.guard =
        subst (λ v. IsGuardBefore s.ground v (drop (suc k) lists) x.guard) in_list
        (guard_before s.ground inside outside (drop (suc k) lists) last x.guard out_list (λ e. let q = done e in omega arith)
        (λ e. let q = more e in pos (length (drop (suc k) lists)) (λ z. q (omega arith))) guard) in
        record {
          left = subst (λ m. outside ≡ all_rows (drop m lists)) (sym step) out_list;
          done = before.done ++ b ∷ [];
          shown = subst (λ m. AllZip Shows m (before.done ++ b ∷ [])) (sym after)
              (zip_push Shows made before.done x b before.shown (record { rows = is_rows ∙ in_list; guard = refl; program = refl }));
          of_lists = lists_push before.done b ∙ ap (λ (v : List (List Example)). v ++ here.list ∷ []) before.of_lists ∙ sym (take_next lists k here.list here.here);
          guarded = subst (λ m. AreGuardedTo s.ground (before.done ++ b ∷ []) (drop m lists)) (sym step)
              (guarded_more s.ground before.done b (drop (suc k) lists) (subst (λ v. AreGuardedTo s.ground before.done v) here.rest before.guarded) guarded (chosen here.list (here.for).stands));
        };
    few = subst (λ (v : List ℕ). length v ≤ 64) (sym back) (shorter n rest yet.few);
    each = subst (λ v. All (IsRowOf s.ground.sheet) v) (sym back) (All-drop (IsRowOf s.ground.sheet) n rest yet.each);
  }
    where
      pos : (n : ℕ) → (n ≡ 0 → ⊥) → 0 < n
      pos zero h = absurd (h refl)
      pos (suc n) h = omega arith

      shorter : {X : Type 0} (n : ℕ) (xs : List X) → length xs ≤ 64 → length (drop n xs) ≤ 64
      shorter zero xs h = h
      shorter (suc n) [] h = h
      shorter (suc n) (x ∷ xs) h = shorter n xs (omega arith)

  -- the branch has no guard
  pub yet_lacks : (made : List Branch) (reason : EditError) → Yet s folds rows rest k made → IsUnguarded s.ground inside outside (k + 1) last reason → (last ≡ false → k + 1 ≡ length folds → ⊥)
      → (lists : List (List Example)) → AreKept s folds lists → rows ≡ all_rows lists → LacksGuard s.ground lists reason
  yet_lacks made reason yet un more lists kept is =
      let before = yet.yet lists kept is in
      let here = list_of s folds lists k f kept lt at in
      let split = rows_at s lists k f n rest here size before.left in
      let size_left = left_after s folds lists k kept lt in
      let length_of = zip_lengths (KeptFor s) folds lists kept in
      let step : k + 1 ≡ suc k = omega arith in
      let not_last = more un.early in
      let whole : lists_of before.done ++ (here.list ∷ drop (suc k) lists) ≡ lists =
      ap (λ (v : List (List Example)). v ++ (here.list ∷ drop (suc k) lists)) before.of_lists ∙ ap (λ (v : List (List Example)). take k lists ++ v) (sym here.rest) ∙ joined lists k in
      let many : length before.done ≡ k = sym (lists_long before.done) ∙ ap length before.of_lists ∙ front_long lists k (omega arith) in (
        k,
        record {
          early = other (suc k) (length lists) (omega arith) (λ e. not_last (omega arith));
          unguarded = λ h.
              let same : h.0 ≡ here.list = (let e = h.2 in let f = here.here in cc) in
              un.none h.1 (subst (λ v. Separates s.ground.settings s.ground.sheet v outside h.1) (sym (front ∙ split.inside))
              (subst (λ v. Separates s.ground.settings s.ground.sheet (rows_of here.list) v h.1) (sym (back ∙ split.outside))
              (subst (λ v. Separates s.ground.settings s.ground.sheet (rows_of v) (all_rows (drop (suc k) lists)) h.1) same h.3)));
          earlier = λ j lt. subst (λ v. CanBeGuarded s.ground v j) whole
              (guarded_earlier s.ground before.done here.list (drop (suc k) lists) (subst (λ v. AreGuardedTo s.ground before.done v) here.rest before.guarded) j (omega arith));
        },
        un.told ∙ ap (λ (m : ℕ). error.NoGuard m) step,
      )
    where
      joined : {X : Type 0} (xs : List X) (k : ℕ) → take k xs ++ drop k xs ≡ xs
      joined xs zero = refl
      joined [] (suc k) = refl
      joined (x ∷ xs) (suc k) = ap (λ v. x ∷ v) (joined xs k)

      lists_long : (bs : List BranchData) → length (lists_of bs) ≡ length bs
      lists_long [] = refl
      lists_long (b ∷ bs) = ap suc (lists_long bs)

      front_long : {X : Type 0} (xs : List X) (k : ℕ) → k ≤ length xs → length (take k xs) ≡ k
      front_long xs zero le = refl
      front_long [] (suc k) le = absurd (omega arith)
      front_long (x ∷ xs) (suc k) le = ap suc (front_long xs k (omega arith))

      other : (a b : ℕ) → a ≤ b → (a ≡ b → ⊥) → a < b
      other a b le ne = omega (arith, ne)

-- all branches are made
pub yet_all : (s : SpacesData) (folds : List (Fold ℕ)) (rows rest : List ℕ) (k : ℕ) (made : List Branch) → Yet s folds rows rest k made → length folds ≤ k
    → (lists : List (List Example)) → AreKept s folds lists → rows ≡ all_rows lists → AreBranchesOf s.ground lists made
yet_all s folds rows rest k made yet le lists kept is =
    let all = yet.yet lists kept is in
    let size = zip_lengths (KeptFor s) folds lists kept in
    (all.done, all.of_lists ∙ take_all k lists (omega arith), guarded_all s.ground all.done (subst (λ v. AreGuardedTo s.ground all.done v) (none_left k lists (omega arith)) all.guarded), all.shown)
  where
    none_left : {X : Type 0} (k : ℕ) (xs : List X) → length xs ≤ k → drop k xs ≡ []
    none_left zero [] le = refl
    none_left zero (x ∷ xs) le = absurd (omega arith)
    none_left (suc k) [] le = refl
    none_left (suc k) (x ∷ xs) le = none_left k xs (omega arith)
