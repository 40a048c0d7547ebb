-- What becomes of examples, over grounds whose rows stand in pairs.
use Rattle.std.proofs.Common.{ℕ, suc, List, [], ◌∷◌, drop, take, refl, subst}
use Rattle.std.specs.List.{AllZip}
use Rattle.fill_tree.specs.declared.user.Example.{Example}
use Rattle.fill_split.specs.Placement.{NoneFits, OpensNinth}
use Rattle.fill_split.proofs.Zips.{zip_drop, zip_lengths, zip_some, zip_take}
use Rattle.fill_local.proofs.Paired.{ArePaired, SaySame, SaysSame}
use Rattle.fill_space.specs.Ground.{FitsOn, WeighsOn}
use Rattle.fill_space.specs.declared.ground.Ground.{Ground}
use Rattle.fill_session.specs.Branches.{all_rows, rule_of_profile}
use Rattle.fill_session.specs.Edits.{rows_of}
use Rattle.fill_session.specs.Fate.{CanBeGuarded, EachHasProgram, HasNoProgram, IsBranchWithoutGuard, IsFirstUnguarded, IsOfRow, IsRowOfNinth, IsRowWithoutProgram, WouldOpenNinth}
use Rattle.fill_local.proofs.Answering.{placed_on}
use Rattle.fill_local.proofs.Explaining.{fits_to, paired_back, same_back, weighs_to}
use Rattle.fill_local.proofs.Guarding.{rows_zip, separates_to}
use Rattle.fill_local.proofs.Placing.{none_to}
use Rattle.fill_local.proofs.Zipped.{zip_flat}

pub of_row_to : (Pair : ℕ → ℕ → Type 0) (es ds : List Example) → SaySame Pair es ds → (i r : ℕ) → IsOfRow es i r → (q : ℕ) × Pair r q × IsOfRow ds i q
of_row_to Pair es ds z i r w =
    let m = zip_some (SaysSame Pair) es ds i w.0 z w.1 in (m.0.row, subst (λ x. Pair x m.0.row) w.2 m.2.row, (m.0, m.1, refl))

module _ (g h : Ground) (Pair : ℕ → ℕ → Type 0) (m : ArePaired g h Pair) where
  fits_back : (es ds : List Example) → SaySame Pair es ds → FitsOn h ds → FitsOn g es
  fits_back es ds z = fits_to h g (λ q r. Pair r q) (paired_back g h Pair m) ds es (same_back Pair es ds z)

  weighs_back : (es ds : List Example) → SaySame Pair es ds → (n : ℕ) → WeighsOn h ds n → WeighsOn g es n
  weighs_back es ds z = weighs_to h g (λ q r. Pair r q) (paired_back g h Pair m) ds es (same_back Pair es ds z)

  no_program_to : (es ds : List Example) → SaySame Pair es ds → (i : ℕ) → HasNoProgram g es i → HasNoProgram h ds i
  no_program_to es ds z i w =
      let t = zip_some (SaysSame Pair) es ds i w.0 z w.1 in (t.0, t.1, λ f. w.2 (fits_back (w.0 ∷ []) (t.0 ∷ []) (t.2, tt) f))

  ninth_to : (es ds : List Example) → SaySame Pair es ds → (i : ℕ) → WouldOpenNinth g es i → WouldOpenNinth h ds i
  ninth_to es ds z i w =
      let t = zip_some (SaysSame Pair) es ds i w.0 z w.1 in
      let p = placed_on g h Pair m (take i es) (take i ds) (zip_take (SaysSame Pair) i es ds z) w.2.branches w.2.placed in
      let none : NoneFits (FitsOn h) p.0 t.0 = none_to (SaysSame Pair) (FitsOn g) (FitsOn h) (WeighsOn g) (WeighsOn h) (λ a b z. fits_to g h Pair m a b z) fits_back (λ a b z. weighs_to g h Pair m a b z) weighs_back
      w.2.branches p.0 p.2 w.0 t.0 t.2 w.2.none in
      let opens : OpensNinth (rule_of_profile h.settings.profile) (FitsOn h) (WeighsOn h) (take i ds) t.0 = record {
        branches = p.0;
        placed = p.1;
        eight = rw (← zip_lengths (SaySame Pair) w.2.branches p.0 p.2) at w.2.eight;
        none = none;
      } in
      (t.0, t.1, opens)

  guarded_at : (lists others : List (List Example)) → AllZip (SaySame Pair) lists others → (k : ℕ) → CanBeGuarded g lists k → CanBeGuarded h others k
  guarded_at lists others z k w =
      let t = zip_some (SaySame Pair) lists others k w.0 z w.2 in (
        t.0,
        w.1,
        t.1,
        separates_to g h Pair m (rows_of w.0) (all_rows (drop (suc k) lists)) (rows_of t.0) (all_rows (drop (suc k) others)) (rows_zip Pair w.0 t.0 t.2)
            (zip_flat (SaySame Pair) Pair rows_of rows_of (λ x y s. rows_zip Pair x y s) (drop (suc k) lists) (drop (suc k) others) (zip_drop (SaySame Pair) (suc k) lists others z)) w.1 w.3,
      )

lists_back : (Pair : ℕ → ℕ → Type 0) (lists others : List (List Example)) → AllZip (SaySame Pair) lists others → AllZip (SaySame (λ q r. Pair r q)) others lists
lists_back Pair [] [] z = tt
lists_back Pair [] (l ∷ ls) z = z
lists_back Pair (l ∷ ls) [] z = z
lists_back Pair (l ∷ ls) (k ∷ ks) z = (same_back Pair l k z.0, lists_back Pair ls ks z.1)

module _ (g h : Ground) (Pair : ℕ → ℕ → Type 0) (m : ArePaired g h Pair) where
  no_program_back : (es ds : List Example) → SaySame Pair es ds → (i : ℕ) → HasNoProgram h ds i → HasNoProgram g es i
  no_program_back es ds z = no_program_to h g (λ q r. Pair r q) (paired_back g h Pair m) ds es (same_back Pair es ds z)

  each_to : (es ds : List Example) → SaySame Pair es ds → EachHasProgram g es → EachHasProgram h ds
  each_to es ds z each = λ i w. each i (no_program_back es ds z i w)

  guarded_back : (lists others : List (List Example)) → AllZip (SaySame Pair) lists others → (k : ℕ) → CanBeGuarded h others k → CanBeGuarded g lists k
  guarded_back lists others z = guarded_at h g (λ q r. Pair r q) (paired_back g h Pair m) others lists (lists_back Pair lists others z)

  unguarded_to : (lists others : List (List Example)) → AllZip (SaySame Pair) lists others → (k : ℕ) → IsFirstUnguarded g lists k → IsFirstUnguarded h others k
  unguarded_to lists others z k w = record {
    early = rw (← zip_lengths (SaySame Pair) lists others z) at w.early;
    unguarded = λ c. w.unguarded (guarded_back lists others z k c);
    earlier = λ j lt. guarded_at g h Pair m lists others z j (w.earlier j lt);
  }

  module _ (es ds : List Example) (z : SaySame Pair es ds) where
    pub without_program_to : (r : ℕ) → IsRowWithoutProgram g es r → (q : ℕ) × Pair r q × IsRowWithoutProgram h ds q
    without_program_to r w =
        let t = of_row_to Pair es ds z w.0 r w.1 in
        (t.0, t.1, (w.0, t.2, no_program_to g h Pair m es ds z w.0 w.2, λ j lt p. w.3 j lt (no_program_back es ds z j p)))

    pub ninth_row_to : (r : ℕ) → IsRowOfNinth g es r → (q : ℕ) × Pair r q × IsRowOfNinth h ds q
    ninth_row_to r w =
        let t = of_row_to Pair es ds z w.1.0 r w.1.1 in
        (t.0, t.1, (each_to es ds z w.0, (w.1.0, t.2, ninth_to g h Pair m es ds z w.1.0 w.1.2)))

    pub without_guard_to : (b : ℕ) → IsBranchWithoutGuard g es b → IsBranchWithoutGuard h ds b
    without_guard_to b w =
        let p = placed_on g h Pair m es ds z w.1.0 w.1.2 in
        (each_to es ds z w.0, (p.0, w.1.1, p.1, rw (← zip_lengths (SaySame Pair) w.1.0 p.0 p.2) at w.1.3, unguarded_to w.1.0 p.0 p.2 w.1.1 w.1.4, w.1.5))
