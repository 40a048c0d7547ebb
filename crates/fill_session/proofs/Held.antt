-- What a session holds, as its spaces grow and as examples change.
use Rattle.std.proofs.Common.{◌≡◌, ℕ, suc, ◌-◌, ◌<◌, ◌≤◌, List, [], ◌∷◌, ◌++◌, length, get_or, Some, None, refl, sym, ap, ◌∙◌, subst, inl, arith}
use Rattle.std.specs.Prelude.{slice_get, All}
use Rattle.std.proofs.lemmas.List.Elements.{All-weaker}
use Rattle.std.specs.List.{AllZip}
use Rattle.fill_split.specs.Keeping.{Keeps}
use Rattle.fill_split.specs.Placement.{Placed}
use Rattle.fill_split.specs.Refusals.{Unplaceable}
use Rattle.fill_split.specs.Standing.{BranchStands, Stand, branches_of, rule_of}
use Rattle.fill_split.specs.declared.folds.Fold.{Fold}
use Rattle.fill_split.specs.declared.folds.Folds.{Folds}
use Rattle.fill_split.specs.declared.rule.Placing.{Placing}
use Rattle.fill_split.proofs.Coming.{stand_keeps}
use Rattle.fill_split.proofs.Unique.{placed_once}
use Rattle.fill_split.proofs.Zips.{zip_lengths, zip_some}
use Rattle.fill_tree.specs.declared.user.Edit.{Edit}
use Rattle.fill_tree.specs.declared.user.Example.{Example}
use Rattle.fill_tree.specs.declared.user.Settings.{Settings}
use Rattle.fill_undo.specs.Moves.{Moves, latest}
use Rattle.fill_undo.specs.declared.done.Done.{Done}
use Rattle.fill_undo.specs.declared.done.Moved.{Moved}
use Rattle.fill_space.specs.declared.ground.Ground.{Ground}
use Rattle.fill_space.specs.Ground.{FitsOn, WeighsOn, MayStand}
use Rattle.fill_space.specs.Spaces.{SpacesData, SpaceStands}
use Rattle.fill_session.specs.Branches.{ArePlaced, BranchData, lists_of, rule_of_profile}
use Rattle.fill_session.specs.Edits.{AreExamples, changed}
use Rattle.fill_session.specs.Fate.{EachHasProgram}
use Rattle.fill_session.specs.Outcome.{first_reason}
use Rattle.fill_session.specs.State.{AreHeld, AreShown, IsAsBefore, IsBranch, IsHeld, SessionData, Shows, SpacesStand}
use Rattle.fill_session.specs.declared.branch.Branch.{Branch}
use Rattle.fill_session.proofs.Applied.{stay_examples, stay_allowed, stay_few}
use Rattle.fill_session.proofs.Moving.{held_pushed}
use Rattle.fill_session.proofs.Picked.{here}

abbrev pub SpaceFolds : Type 0 → Type 0
SpaceFolds T = Folds SpacesData Example ℕ T Ground

-- what is seen of what is held
abbrev pub seen : SpacesData → List Example → List Branch → Moves (List Example) → SessionData
seen s xs shown moves = record { spaces = s; examples = xs; branches = shown; moves = moves }

-- folds stand where the spaces have grown
pub stand_stays : {T : Type 0} (a b : SpacesData) (xs : List Example) (folds : SpaceFolds T) → b.ground ≡ a.ground → Keeps (SpaceStands a) (SpaceStands b) → SpacesStand a xs folds → SpacesStand b xs folds
stand_stays a b xs folds same keeps h =
    subst (λ g. Stand (SpaceStands b) folds.rule (FitsOn g) (WeighsOn g) xs folds.kept.items folds.places folds.branches.items) (sym same)
    (stand_keeps (SpaceStands a) (SpaceStands b) folds.rule (FitsOn a.ground) (WeighsOn a.ground) keeps xs folds.kept.items folds.places folds.branches.items h)

pub held_stays : {T : Type 0} (a b : SpacesData) (xs : List Example) (folds : SpaceFolds T) (shown : List Branch) → b.ground ≡ a.ground → Keeps (SpaceStands a) (SpaceStands b) → IsHeld a xs folds shown → IsHeld b xs folds shown
held_stays a b xs folds shown same keeps h = record {
  session = record {
    rising = (h.session).rising;
    few = (h.session).few;
    each = subst (λ g. All (MayStand g) xs) (sym same) (h.session).each;
    shown = subst (λ g. AreShown g xs shown) (sym same) (h.session).shown;
  };
  stand = stand_stays a b xs folds same keeps h.stand;
  rule = h.rule ∙ ap (λ (g : Ground). rule_of_profile g.settings.profile) (sym same);
}

-- so of each state of a history
pub states_stay : {S T : Type 0} (folds : S → SpaceFolds T) (examples : S → List Example) (branches : S → List Branch) (a b : SpacesData) (moves : Moves S) → b.ground ≡ a.ground → Keeps (SpaceStands a) (SpaceStands b)
    → AreHeld (λ p. IsHeld a (examples p) (folds p) (branches p)) moves → AreHeld (λ p. IsHeld b (examples p) (folds p) (branches p)) moves
states_stay {S} folds examples branches a b moves same keeps all =
    All-weaker (λ (m : Moved S). IsHeld a (examples m.state) (folds m.state) (branches m.state)) (λ (m : Moved S). IsHeld b (examples m.state) (folds m.state) (branches m.state))
    (λ m h. held_stays a b (examples m.state) (folds m.state) (branches m.state) same keeps h) (moves.past ++ moves.future) all

-- what is held after an accepted edit: what was present goes to the past, and what was made is present
pub next_held : {S T : Type 0} (folds : S → SpaceFolds T) (examples : S → List Example) (branches : S → List Branch) (a b : SpacesData) (old new : Moves S) (now before next made : S) (done : Done) → b.ground ≡ a.ground
    → Keeps (SpaceStands a) (SpaceStands b) → IsHeld a (examples now) (folds now) (branches now) → AreHeld (λ p. IsHeld a (examples p) (folds p) (branches p)) old → IsHeld b (examples made) (folds made) (branches made)
    → before ≡ now → next ≡ made → new.past ≡ latest (old.past ++ (record { state = before; done = done }) ∷ []) → new.future ≡ []
    → IsHeld b (examples next) (folds next) (branches next) × AreHeld (λ p. IsHeld b (examples p) (folds p) (branches p)) new
next_held {S} folds examples branches a b old new now before next made done same keeps h all is was now_is past future =
    let held = λ (p : S). IsHeld b (examples p) (folds p) (branches p) in
    let one : held before = subst held (sym was) (held_stays a b (examples now) (folds now) (branches now) same keeps h) in
    (subst held (sym now_is) is, held_pushed held old new (record { state = before; done = done }) past future (states_stay folds examples branches a b old same keeps all) one)

no_examples : AreExamples []
no_examples i j d less lt = absurd (omega arith)

-- no examples
pub none_held : {T : Type 0} (s : SpacesData) (xs : List Example) (folds : SpaceFolds T) (shown : List Branch) (settings : Settings) → xs ≡ [] → shown ≡ [] → rule_of folds ≡ rule_of_profile settings.profile
    → SpacesStand s [] folds → s.ground.settings ≡ settings → IsHeld s xs folds shown
none_held s xs folds shown settings none empty rule stand same =
    subst (λ (v : List Example). IsHeld s v folds shown) (sym none)
    (subst (λ (v : List Branch). IsHeld s [] folds v) (sym empty) (record {
      session = record {
        rising = no_examples;
        few = omega arith;
        each = λ k d lt. absurd (omega arith);
        shown = ([], record { placed = refl; few = omega arith; guarded = tt }, tt);
      };
      stand = stand;
      rule = rule ∙ ap (λ (v : Settings). rule_of_profile v.profile) (sym same);
    }))

-- the changed examples, over a ground that is the same
module _ {T : Type 0} (a b : SpacesData) (xs ys : List Example) (folds : SpaceFolds T) (shown : List Branch) (edit : Edit) (same : b.ground ≡ a.ground) (free : first_reason a.ground.sheet xs edit ≡ None)
    (is : ys ≡ changed xs edit) (h : IsHeld a xs folds shown) where
  pub new_each : All (MayStand b.ground) ys
  new_each = subst (λ g. All (MayStand g) ys) (sym same) (subst (λ v. All (MayStand a.ground) v) (sym is) (stay_allowed a.ground xs edit free (h.session).each))

  pub new_few : length ys ≤ 64
  new_few = subst (λ (v : List Example). length v ≤ 64) (sym is) (stay_few a.ground.sheet xs edit free (h.session).rising (h.session).few)

  pub new_stand : (zs : List Example) (new : SpaceFolds T) → zs ≡ changed xs edit → SpacesStand b zs new → SpacesStand b ys new
  new_stand zs new other stand = subst (λ v. SpacesStand b v new) (other ∙ sym is) stand

  pub new_held : (new : SpaceFolds T) (made : List Branch) → SpacesStand b ys new → rule_of new ≡ rule_of folds → AreShown b.ground ys made → IsHeld b ys new made
  new_held new made stand rule branches = record {
    session = record { rising = subst AreExamples (sym is) (stay_examples xs edit (h.session).rising); few = new_few; each = new_each; shown = branches };
    stand = stand;
    rule = rule ∙ h.rule ∙ ap (λ (g : Ground). rule_of_profile g.settings.profile) (sym same);
  }

  -- where no example is unplaceable, each has a program
  pub new_programs : (zs : List Example) → zs ≡ changed xs edit → ((j : ℕ) → Unplaceable (rule_of folds) (FitsOn a.ground) (WeighsOn a.ground) zs j → ⊥) → EachHasProgram b.ground ys
  new_programs zs other placed =
      subst (λ g. EachHasProgram g ys) (sym same) (subst (λ v. EachHasProgram a.ground v) (other ∙ sym is) (λ i alone. placed i (inl alone)))

-- the lists of the shown branches are those that the folds stand for
pub record Matched {T : Type 0} (s : SpacesData) (xs : List Example) (folds : SpaceFolds T) (lists : List (List Example)) : Type 0 where
  pub each : AllZip (BranchStands (SpaceStands s) xs folds.kept.items) folds.branches.items lists
  pub placed : ArePlaced s.ground xs lists

pub matched : {T : Type 0} (s : SpacesData) (xs : List Example) (folds : SpaceFolds T) → SpacesStand s xs folds → rule_of folds ≡ rule_of_profile s.ground.settings.profile
    → (lists : List (List Example)) → ArePlaced s.ground xs lists → Matched s xs folds lists
matched s xs folds stand rule lists placed =
    let mine : Placed (rule_of_profile s.ground.settings.profile) (FitsOn s.ground) (WeighsOn s.ground) xs stand.branches =
    subst (λ (r : Placing). Placed r (FitsOn s.ground) (WeighsOn s.ground) xs stand.branches) rule stand.placed in
    let one : stand.branches ≡ lists = placed_once (rule_of_profile s.ground.settings.profile) (FitsOn s.ground) (WeighsOn s.ground) [] xs stand.branches lists mine placed in
    record { each = subst (λ v. AllZip (BranchStands (SpaceStands s) xs folds.kept.items) folds.branches.items v) one stand.each; placed = placed }

-- the fold at a place stands for the list at that place
pub stands_at : {T : Type 0} (s : SpacesData) (xs : List Example) (folds : SpaceFolds T) (lists : List (List Example)) → Matched s xs folds lists → (k : ℕ) (list : List Example) (f : Fold ℕ) → slice_get lists k ≡ Some list
    → slice_get folds.branches.items k ≡ Some f → SpaceStands s f.kept list
stands_at s xs folds lists m k list f at there =
    let found = zip_some (BranchStands (SpaceStands s) xs folds.kept.items) folds.branches.items lists k f m.each there in
    let same : found.0 ≡ list = (let e = found.1 in let d = at in cc) in
    subst (λ v. SpaceStands s f.kept v) same (found.2).kept

pub lists_long : (bs : List BranchData) → length (lists_of bs) ≡ length bs
lists_long [] = refl
lists_long (b ∷ bs) = ap suc (lists_long bs)

-- as many folds as branches
pub as_many : {T : Type 0} (s : SpacesData) (xs : List Example) (folds : SpaceFolds T) (shown : List Branch) → SpacesStand s xs folds → rule_of folds ≡ rule_of_profile s.ground.settings.profile → AreShown s.ground xs shown
    → length folds.branches.items ≡ length shown
as_many s xs folds shown stand rule are =
    let m = matched s xs folds stand rule (lists_of are.0) (are.1).placed in
    sym (zip_lengths (BranchStands (SpaceStands s) xs folds.kept.items) folds.branches.items (lists_of are.0) m.each) ∙ lists_long are.0 ∙ zip_lengths Shows shown are.0 are.2

pub few_shown : (g : Ground) (xs : List Example) (shown : List Branch) → AreShown g xs shown → length shown ≤ 8
few_shown g xs shown are = let few = (are.1).few in let same = zip_lengths Shows shown are.0 are.2 in omega arith

-- the branches that are held, also as a slice that has them
pub held_shown : {T : Type 0} (s : SpacesData) (xs : List Example) (folds : SpaceFolds T) (branches : List Branch) → IsHeld s xs folds branches → (shown : List Branch) → shown ≡ branches → AreShown s.ground xs shown
held_shown s xs folds branches h shown same = subst (λ v. AreShown s.ground xs v) (sym same) (h.session).shown

-- a session that is seen as v
module _ {T : Type 0} (s : SpacesData) (xs : List Example) (folds : SpaceFolds T) (shown : List Branch) (moves : Moves (List Example)) (v : SessionData) (is : seen s xs shown moves ≡ v) (h : IsHeld s xs folds shown) where
  pub within_folds : (fs : List (Fold ℕ)) (n : ℕ) → fs ≡ branches_of folds → 1 ≤ n → n ≤ length v.branches → n - 1 < length fs
  within_folds fs n all first last =
      let many = as_many s xs folds shown h.stand h.rule (h.session).shown in
      let size : length fs ≡ length folds.branches.items = ap length all in
      let same : length shown ≡ length v.branches = ap (λ (w : SessionData). length w.branches) is in
      omega arith

  pub space_of : (fs : List (Fold ℕ)) (n : ℕ) (d : Fold ℕ) → fs ≡ branches_of folds → 1 ≤ n → n ≤ length v.branches
      → (list : List Example) → IsBranch v.spaces.ground v.examples n list → SpaceStands v.spaces (get_or fs (n - 1) d).kept list
  space_of fs n d all first last =
      subst (λ (w : SessionData). (list : List Example) → IsBranch w.spaces.ground w.examples n list → SpaceStands w.spaces (get_or fs (n - 1) d).kept list) is
      (λ list branch.
      let lt = within_folds fs n all first last in
      let m = matched s xs folds h.stand h.rule branch.0 branch.2 in
      let place : n - 1 ≡ branch.1 = (let e = branch.4 in omega arith) in
      stands_at s xs folds branch.0 m branch.1 list (get_or fs (n - 1) d) branch.3
      (subst (λ (w : List (Fold ℕ)). slice_get w branch.1 ≡ Some (get_or fs (n - 1) d)) all (subst (λ k. slice_get fs k ≡ Some (get_or fs (n - 1) d)) place (here fs (n - 1) d lt))))

  -- each number is that of some branch
  pub some_branch : (n : ℕ) → 1 ≤ n → n ≤ length v.branches → (list : List Example) × IsBranch v.spaces.ground v.examples n list
  some_branch n first last =
      subst (λ (w : SessionData). (list : List Example) × IsBranch w.spaces.ground w.examples n list) is
      (let are = (h.session).shown in
      let same : length shown ≡ length v.branches = ap (λ (w : SessionData). length w.branches) is in
      let many = zip_lengths Shows shown are.0 are.2 in
      let long = lists_long are.0 in
      let lt : n - 1 < length (lists_of are.0) = omega arith in
      let step : n ≡ suc (n - 1) = omega arith in
      (get_or (lists_of are.0) (n - 1) [], (lists_of are.0, n - 1, (are.1).placed, here (lists_of are.0) (n - 1) [] lt, step)))

  pub as_before : (b : SpacesData) → b.ground ≡ s.ground → Keeps (SpaceStands s) (SpaceStands b) → Keeps (SpaceStands b) (SpaceStands s) → IsAsBefore v (seen b xs shown moves)
  as_before b same keeps cut = subst (λ (w : SessionData). IsAsBefore w (seen b xs shown moves)) is (record { ground = same; examples = refl; branches = refl; moves = refl; spaces = λ k l. (keeps k l, cut k l) })
