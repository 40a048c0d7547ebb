-- Examples have one fate, one list of branches, and one answer on each row.
use Rattle.std.proofs.Common.{◌≡◌, ℕ, zero, suc, ◌<◌, ◌≤◌, List, [], ◌∷◌, length, take, Option, None, Some, refl, sym, ap, ◌∙◌, subst, ⊎_elim, arith}
use Rattle.std.specs.Prelude.{slice_get}
use Rattle.std.specs.declared.cmp.Ordering.{Ordering}
use Rattle.std.specs.declared.cmp.Ordering.TheVariants.{Less, Equal, Greater}
use Rattle.std.specs.Ordering.{ordering_reverse}
use Rattle.std.proofs.lemmas.Bool.{cases_lt}
use Rattle.std.proofs.lemmas.List.Elements.{All-nil, All-cons, All-contains}
use Rattle.fill_guard.proofs.GuardOrder.{exact_guards, guard_antisymm}
use Rattle.fill_split.specs.Placement.{OpensNinth}
use Rattle.fill_split.proofs.Unique.{no_ninth, placed_once}
use Rattle.fill_tree.specs.Chosen.{Explains}
use Rattle.fill_tree.specs.Separate.{IsLeastGuard, guard_cmp}
use Rattle.fill_tree.specs.Value.{ProgramIs}
use Rattle.fill_tree.specs.declared.guard.Guard.{Guard}
use Rattle.fill_tree.specs.declared.user.Example.{Example}
use Rattle.fill_tree.proofs.ProgramOrder.{least_is_one}
use Rattle.fill_space.specs.declared.ground.Ground.{Ground}
use Rattle.fill_space.specs.Ground.{ChosenOn, FitsOn, WeighsOn}
use Rattle.fill_session.specs.Branches.{ArePlaced, AreBranches, AreGuarded, BranchData, IsGuardBefore, all_rows, lists_of, rule_of_profile}
use Rattle.fill_session.specs.Edits.{rows_of}
use Rattle.fill_session.specs.Fate.{CanBeGuarded, EachHasProgram, FateIs, HasNoProgram, IsAccepted, IsBranchWithoutGuard, IsFirstUnguarded, IsRowOfNinth, IsRowWithoutProgram, WouldOpenNinth}
use Rattle.fill_session.specs.declared.error.EditError.{EditError}
use Rattle.fill_session.specs.declared.error.EditError.TheVariants as error
use Rattle.fill_session.proofs.Firsts.{contains_from}
use Rattle.fill_session.proofs.Held.{lists_long}
use Rattle.fill_session.proofs.Reproduced.{holder_of}

-- a least guard is one
least_guard_is_one : (g : Ground) (inside outside : List ℕ) (a b : Guard) → IsLeastGuard g.settings g.sheet inside outside a → IsLeastGuard g.settings g.sheet inside outside b → a ≡ b
least_guard_is_one g inside outside a b h k = cases (guard_cmp a b) refl
  where
    cases : (o : Ordering) → guard_cmp a b ≡ o → a ≡ b
    cases Less e = absurd (k.least a h.separates e)
    cases Equal e = exact_guards a b e
    cases Greater e = absurd (h.least b k.separates (guard_antisymm b a ∙ ap ordering_reverse e))

guard_is_one : (g : Ground) (rows : List ℕ) (later : List (List Example)) (a b : Option Guard) → IsGuardBefore g rows later a → IsGuardBefore g rows later b → a ≡ b
guard_is_one g rows [] a b h k = h ∙ sym k
guard_is_one g rows (l ∷ later) a b h k =
    h.1 ∙ ap (λ (x : Guard). Some x) (least_guard_is_one g rows (all_rows (l ∷ later)) h.0 k.0 h.2 k.2) ∙ sym k.1

same_branch : (a b : BranchData) → a.examples ≡ b.examples → a.guard ≡ b.guard → a.program ≡ b.program → a ≡ b
same_branch a b e h p = λ i. record { examples = e i; guard = h i; program = p i }

guarded_is_one : (g : Ground) (xs ys : List BranchData) → lists_of xs ≡ lists_of ys → AreGuarded g xs → AreGuarded g ys → xs ≡ ys
guarded_is_one g [] [] e h k = refl
guarded_is_one g [] (y ∷ ys) e h k = absurd cc
guarded_is_one g (x ∷ xs) [] e h k = absurd cc
guarded_is_one g (x ∷ xs) (y ∷ ys) e h k =
    let lists : x.examples ∷ lists_of xs ≡ y.examples ∷ lists_of ys = e in
    let first : x.examples ≡ y.examples = cc in
    let rest : lists_of xs ≡ lists_of ys = cc in
    let guard : IsGuardBefore g (rows_of y.examples) (lists_of ys) x.guard =
    subst (λ (l : List (List Example)). IsGuardBefore g (rows_of y.examples) l x.guard) rest
    (subst (λ (l : List Example). IsGuardBefore g (rows_of l) (lists_of xs) x.guard) first h.0) in
    let chosen : ChosenOn g y.examples x.program = subst (λ (l : List Example). ChosenOn g l x.program) first h.1 in
    let same = same_branch x y first (guard_is_one g (rows_of y.examples) (lists_of ys) x.guard y.guard guard k.0)
    (least_is_one g.settings.profile.prices (Explains g.settings g.sheet g.tables y.examples) x.program y.program chosen k.1) in
    let later = guarded_is_one g xs ys rest h.2 k.2 in
    λ i. same i ∷ later i

module _ (g : Ground) (examples : List Example) where
  -- examples are placed into one list of lists
  lists_are_one : (ns ms : List (List Example)) → ArePlaced g examples ns → ArePlaced g examples ms → ns ≡ ms
  lists_are_one ns ms h k = placed_once (rule_of_profile g.settings.profile) (FitsOn g) (WeighsOn g) [] examples ns ms h k

  pub branches_are_one : (a b : List BranchData) → AreBranches g examples a → AreBranches g examples b → a ≡ b
  branches_are_one a b h k = guarded_is_one g a b (lists_are_one (lists_of a) (lists_of b) h.placed k.placed) h.guarded k.guarded

  -- each example that has a branch has a program of its own
  each_has : (bs : List BranchData) → AreBranches g examples bs → EachHasProgram g examples
  each_has bs are i none =
      let x = none.0 in
      let h = holder_of g examples bs x are (contains_from examples i x none.1) in
      let explains = (h.chosen).has in
      let value = All-contains (λ (e : Example). ProgramIs g.sheet g.tables e.row (h.branch).program e.text) (h.branch).examples x explains.values h.holds in
      none.2 (
        (h.branch).program,
        record {
          in_grammar = explains.in_grammar;
          values = All-cons (λ (e : Example). ProgramIs g.sheet g.tables e.row (h.branch).program e.text) x [] value (All-nil (λ (e : Example). ProgramIs g.sheet g.tables e.row (h.branch).program e.text));
        },
      )

  -- where examples have at most eight lists, none would open a ninth
  none_opens : (lists : List (List Example)) → ArePlaced g examples lists → length lists ≤ 8 → (i : ℕ) → WouldOpenNinth g examples i → ⊥
  none_opens lists placed few i w = no_ninth (rule_of_profile g.settings.profile) (FitsOn g) (WeighsOn g) examples lists i w.0 placed few w.1 w.2

-- each branch but the last can be guarded
can_be : (g : Ground) (bs : List BranchData) (k : ℕ) → AreGuarded g bs → suc k < length (lists_of bs) → CanBeGuarded g (lists_of bs) k
can_be g [] k h lt = absurd (omega arith)
can_be g (b ∷ []) k h lt = absurd (omega arith)
can_be g (b ∷ c ∷ bs) zero h lt = let own = h.0 in (b.examples, own.0, refl, (own.2).separates)
can_be g (b ∷ c ∷ bs) (suc k) h lt = can_be g (c ∷ bs) k h.2 (omega arith)

-- what is accepted is not refused
never_both : (g : Ground) (examples : List Example) (r : EditError) → IsAccepted g examples → FateIs g examples (Some r) → ⊥
never_both g examples (error.NoProgram row) h k = each_has g examples h.0 h.1 k.0 k.2
never_both g examples (error.TooManyBranches row) h k =
    let few = (h.1).few in
    let long = lists_long h.0 in
    none_opens g examples (lists_of h.0) (h.1).placed (omega arith) k.1.0 k.1.2
never_both g examples (error.NoGuard branch) h k =
    let w = k.1 in
    let same = lists_are_one g examples w.0 (lists_of h.0) w.2 (h.1).placed in
    let first = subst (λ (l : List (List Example)). IsFirstUnguarded g l w.1) same w.4 in
    first.unguarded (can_be g h.0 w.1 (h.1).guarded first.early)
never_both g examples (error.NoSuchRow rows) h k = k
never_both g examples error.HasExample h k = k
never_both g examples error.NoExample h k = k
never_both g examples (error.TooLong part count) h k = k
never_both g examples error.TooMany h k = k
never_both g examples error.NoMemory h k = k

-- the least place of a property is one
least_place : (P : ℕ → Type 0) (i j : ℕ) → P i → P j → ((k : ℕ) → k < i → ¬ (P k)) → ((k : ℕ) → k < j → ¬ (P k)) → i ≡ j
least_place P i j p q first second =
    ⊎_elim (λ lt. absurd (second i lt p)) (λ le. ⊎_elim (λ lt. absurd (first j lt q)) (λ ge. omega arith) (cases_lt j i)) (cases_lt i j)

same_row : (examples : List Example) (i j row other : ℕ) → i ≡ j → (x : Example) → slice_get examples i ≡ Some x → x.row ≡ row → (y : Example) → slice_get examples j ≡ Some y → y.row ≡ other → row ≡ other
same_row examples i j row other e x hx rx y hy ry =
    let some : Some x ≡ Some y = sym hx ∙ ap (λ (k : ℕ). slice_get examples k) e ∙ hy in
    let same : x ≡ y = cc in
    sym rx ∙ ap (λ (v : Example). v.row) same ∙ ry

no_program_is_one : (g : Ground) (examples : List Example) (row other : ℕ) → IsRowWithoutProgram g examples row → IsRowWithoutProgram g examples other → row ≡ other
no_program_is_one g examples row other h k =
    let same = least_place (HasNoProgram g examples) h.0 k.0 h.2 k.2 h.3 k.3 in
    same_row examples h.0 k.0 row other same h.1.0 h.1.1 h.1.2 k.1.0 k.1.1 k.1.2

-- the examples before one that would open a ninth branch have eight, so none of them would
take_less : {X : Type 0} (i j : ℕ) (xs : List X) → j ≤ i → take j (take i xs) ≡ take j xs
take_less i zero xs h = refl
take_less zero (suc j) xs h = absurd (omega arith)
take_less (suc i) (suc j) [] h = refl
take_less (suc i) (suc j) (x ∷ xs) h = ap (λ l. x ∷ l) (take_less i j xs (omega arith))

get_less : {X : Type 0} (i j : ℕ) (xs : List X) → j < i → slice_get (take i xs) j ≡ slice_get xs j
get_less zero j xs h = absurd (omega arith)
get_less (suc i) zero [] h = refl
get_less (suc i) zero (x ∷ xs) h = refl
get_less (suc i) (suc j) [] h = refl
get_less (suc i) (suc j) (x ∷ xs) h = get_less i j xs (omega arith)

none_before : (g : Ground) (examples : List Example) (i : ℕ) → WouldOpenNinth g examples i → (j : ℕ) → j < i → ¬ (WouldOpenNinth g examples j)
none_before g examples i w j lt v =
    let rule = rule_of_profile g.settings.profile in
    let o = w.2 in
    let eight = o.eight in
    no_ninth rule (FitsOn g) (WeighsOn g) (take i examples) o.branches j v.0 o.placed (omega arith) (get_less i j examples lt ∙ v.1)
    (subst (λ (l : List Example). OpensNinth rule (FitsOn g) (WeighsOn g) l v.0) (sym (take_less i j examples (omega arith))) v.2)

ninth_is_one : (g : Ground) (examples : List Example) (row other : ℕ) → IsRowOfNinth g examples row → IsRowOfNinth g examples other → row ≡ other
ninth_is_one g examples row other h k =
    let a = h.1 in
    let b = k.1 in
    let same = least_place (WouldOpenNinth g examples) a.0 b.0 a.2 b.2 (none_before g examples a.0 a.2) (none_before g examples b.0 b.2) in
    same_row examples a.0 b.0 row other same a.1.0 a.1.1 a.1.2 b.1.0 b.1.1 b.1.2

first_unguarded_is_one : (g : Ground) (lists : List (List Example)) (j k : ℕ) → IsFirstUnguarded g lists j → IsFirstUnguarded g lists k → j ≡ k
first_unguarded_is_one g lists j k h l =
    ⊎_elim
    (λ lt. absurd (h.unguarded (l.earlier j lt)))
    (λ le. ⊎_elim (λ lt. absurd (l.unguarded (h.earlier k lt))) (λ ge. omega arith) (cases_lt k j))
    (cases_lt j k)

no_guard_is_one : (g : Ground) (examples : List Example) (branch other : ℕ) → IsBranchWithoutGuard g examples branch → IsBranchWithoutGuard g examples other → branch ≡ other
no_guard_is_one g examples branch other h k =
    let v = h.1 in
    let w = k.1 in
    let same = lists_are_one g examples v.0 w.0 v.2 w.2 in
    let one = first_unguarded_is_one g w.0 v.1 w.1 (subst (λ (l : List (List Example)). IsFirstUnguarded g l v.1) same v.4) w.4 in
    v.5 ∙ ap suc one ∙ sym w.5

-- some example would open a ninth branch, or some list has no guard, and not both
not_ninth : (g : Ground) (examples : List Example) (row branch : ℕ) → IsRowOfNinth g examples row → IsBranchWithoutGuard g examples branch → ⊥
not_ninth g examples row branch h k = let w = k.1 in none_opens g examples w.0 w.2 w.3 (h.1).0 (h.1).2

-- one reason
reason_one : (g : Ground) (examples : List Example) (a b : EditError) → FateIs g examples (Some a) → FateIs g examples (Some b) → a ≡ b
reason_one g examples (error.NoProgram row) b h k = of_program b k
  where
    of_program : (b : EditError) → FateIs g examples (Some b) → error.NoProgram row ≡ b
    of_program (error.NoProgram other) k = ap (λ (n : ℕ). error.NoProgram n) (no_program_is_one g examples row other h k)
    of_program (error.TooManyBranches other) k = absurd (k.0 h.0 h.2)
    of_program (error.NoGuard branch) k = absurd (k.0 h.0 h.2)
    of_program (error.NoSuchRow rows) k = absurd k
    of_program error.HasExample k = absurd k
    of_program error.NoExample k = absurd k
    of_program (error.TooLong part count) k = absurd k
    of_program error.TooMany k = absurd k
    of_program error.NoMemory k = absurd k
reason_one g examples (error.TooManyBranches row) b h k = of_ninth b k
  where
    of_ninth : (b : EditError) → FateIs g examples (Some b) → error.TooManyBranches row ≡ b
    of_ninth (error.NoProgram other) k = absurd (h.0 k.0 k.2)
    of_ninth (error.TooManyBranches other) k = ap (λ (n : ℕ). error.TooManyBranches n) (ninth_is_one g examples row other h k)
    of_ninth (error.NoGuard branch) k = absurd (not_ninth g examples row branch h k)
    of_ninth (error.NoSuchRow rows) k = absurd k
    of_ninth error.HasExample k = absurd k
    of_ninth error.NoExample k = absurd k
    of_ninth (error.TooLong part count) k = absurd k
    of_ninth error.TooMany k = absurd k
    of_ninth error.NoMemory k = absurd k
reason_one g examples (error.NoGuard branch) b h k = of_guard b k
  where
    of_guard : (b : EditError) → FateIs g examples (Some b) → error.NoGuard branch ≡ b
    of_guard (error.NoProgram other) k = absurd (h.0 k.0 k.2)
    of_guard (error.TooManyBranches other) k = absurd (not_ninth g examples other branch k h)
    of_guard (error.NoGuard other) k = ap (λ (n : ℕ). error.NoGuard n) (no_guard_is_one g examples branch other h k)
    of_guard (error.NoSuchRow rows) k = absurd k
    of_guard error.HasExample k = absurd k
    of_guard error.NoExample k = absurd k
    of_guard (error.TooLong part count) k = absurd k
    of_guard error.TooMany k = absurd k
    of_guard error.NoMemory k = absurd k
reason_one g examples (error.NoSuchRow rows) b h k = absurd h
reason_one g examples error.HasExample b h k = absurd h
reason_one g examples error.NoExample b h k = absurd h
reason_one g examples (error.TooLong part count) b h k = absurd h
reason_one g examples error.TooMany b h k = absurd h
reason_one g examples error.NoMemory b h k = absurd h

pub fate_is_one : (g : Ground) (examples : List Example) (a b : Option EditError) → FateIs g examples a → FateIs g examples b → a ≡ b
fate_is_one g examples None None h k = refl
fate_is_one g examples None (Some r) h k = absurd (never_both g examples r h k)
fate_is_one g examples (Some r) None h k = absurd (never_both g examples r k h)
fate_is_one g examples (Some r) (Some s) h k = ap (λ (x : EditError). Some x) (reason_one g examples r s h k)
