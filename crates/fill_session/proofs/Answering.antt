-- What the shown branches answer on a row, and their conditional program.
use Rattle.std.proofs.Common.{◌≡◌, ℕ, zero, suc, ◌+◌, ◌<◌, ◌≤◌, List, [], ◌∷◌, ◌++◌, length, map, take, drop, get_or, Option, Some, None, true, false, refl, sym, ap, ◌∙◌, subst, ⊎_elim, length-append, arith}
use Rattle.std.specs.Prelude.{slice_get, slice_set, All, Contains, IfSome, option_map}
use Rattle.std.specs.List.{AllZip, flat_map}
use Rattle.std.proofs.lemmas.Bool.{false≢true, eq-eqb, ne_eqb, cases_eq}
use Rattle.std.proofs.lemmas.List.Elements.{All-nil, All-cons, All-head, All-tail}
use Rattle.fill_text.specs.Data.{SheetData}
use Rattle.fill_split.specs.Placement.{PlacedFrom}
use Rattle.fill_split.specs.declared.rule.Placing.{Placing}
use Rattle.fill_split.proofs.Zips.{zip_some, zip_take, take_next}
use Rattle.fill_tree.specs.Guard.{ReadsInputs}
use Rattle.fill_tree.specs.Meaning.{program_tree}
use Rattle.fill_tree.specs.Separate.{IsGuard, IsLiteral, literal_cmp}
use Rattle.std.specs.declared.cmp.Ordering.TheVariants.{Less}
use Rattle.fill_tree.specs.Switch.{CaseTree, SwitchTree, case_tree, switch_tree}
use Rattle.fill_tree.specs.Tree.{Atoms}
use Rattle.fill_tree.specs.declared.guard.Case.{Case}
use Rattle.fill_tree.specs.declared.guard.Guard.{Guard}
use Rattle.fill_tree.specs.declared.guard.Literal.{Literal}
use Rattle.fill_tree.specs.declared.tree.Program.{Program}
use Rattle.fill_tree.specs.declared.user.Example.{Example}
use Rattle.fill_space.specs.declared.ground.Ground.{Ground}
use Rattle.fill_space.specs.Ground.{FitsOn, WeighsOn}
use Rattle.fill_session.specs.Answers.{IsBranchAt, TakesRow, cases_of, switch_of, with_branch}
use Rattle.fill_session.specs.Branches.{AreGuarded, BranchData, IsGuardBefore, lists_of, rule_of_profile}
use Rattle.fill_session.specs.Edits.{HasExample, rows_of}
use Rattle.fill_session.specs.Outcome.{has_example}
use Rattle.fill_session.specs.State.{AreShown, Shows}
use Rattle.fill_session.specs.Taken.{IsFirstTaker, NoneTakes, ReadInputs}
use Rattle.fill_session.specs.declared.branch.Branch.{Branch}
use Rattle.fill_session.proofs.Held.{lists_long}
use Rattle.fill_session.proofs.Picked.{here, map_at, flat_push}

-- the test and the fact that a row has an example
pub has_one : (xs : List Example) (row : ℕ) → has_example xs row ≡ true → HasExample xs row
has_one [] row h = absurd (false≢true h)
has_one (x ∷ xs) row h = ⊎_elim
    (λ same. (0, omega arith, same))
    (λ ne. let rest = has_one xs row (rw (ne_eqb x.row row ne) at h) in (suc rest.0, (let lt = rest.1 in omega arith), rest.2))
    (cases_eq x.row row)

one_test : (xs : List Example) (row k : ℕ) → k < length (rows_of xs) → get_or (rows_of xs) k row ≡ row → has_example xs row ≡ true
one_test [] row k lt h = absurd (omega arith)
one_test (x ∷ xs) row zero lt h = rw (eq-eqb x.row row h) refl
one_test (x ∷ xs) row (suc k) lt h = ⊎_elim
    (λ same. rw (eq-eqb x.row row same) refl)
    (λ ne. rw (ne_eqb x.row row ne) (one_test xs row k (omega arith) h))
    (cases_eq x.row row)

pub has_none : (xs : List Example) (row : ℕ) → has_example xs row ≡ false → HasExample xs row → ⊥
has_none xs row no_test has = false≢true (sym no_test ∙ one_test xs row has.0 has.1 has.2)

if_some : {A : Type 0} (P Q : A → Type 0) (o : Option A) → ((x : A) → P x → Q x) → IfSome o P → IfSome o Q
if_some P Q None f h = tt
if_some P Q (Some x) f h = f x h

-- guards of branches read inputs
guard_reads : (g : Ground) (rows : List ℕ) (later : List (List Example)) (guard : Option Guard) → IsGuardBefore g rows later guard → IfSome guard (ReadsInputs g.sheet)
guard_reads g rows [] guard h = subst (λ (o : Option Guard). IfSome o (ReadsInputs g.sheet)) (sym h) tt
guard_reads g rows (l ∷ later) guard h =
    let is : IsGuard g.settings g.sheet h.0 = ((h.2).separates).is in
    subst (λ (o : Option Guard). IfSome o (ReadsInputs g.sheet)) (sym h.1)
    ((is.0).input, if_some (λ (l : Literal). IsLiteral g.settings g.sheet l × (literal_cmp (h.0).first l ≡ Less)) (λ (l : Literal). Contains g.sheet.inputs l.column) (h.0).second (λ l both. (both.0).input) is.1)

reads_zip : (g : Ground) (shown : List Branch) (bs : List BranchData) → AllZip Shows shown bs → AreGuarded g bs → ReadInputs g.sheet shown
reads_zip g [] [] z h = All-nil (λ (x : Branch). IfSome x.guard (ReadsInputs g.sheet))
reads_zip g [] (b ∷ bs) z h = absurd z
reads_zip g (x ∷ shown) [] z h = absurd z
reads_zip g (x ∷ shown) (b ∷ bs) z h =
    All-cons (λ (x : Branch). IfSome x.guard (ReadsInputs g.sheet)) x shown
    (subst (λ (o : Option Guard). IfSome o (ReadsInputs g.sheet)) (sym (z.0).guard) (guard_reads g (rows_of b.examples) (lists_of bs) b.guard h.0)) (reads_zip g shown bs z.1 h.2)

pub reads_all : (g : Ground) (xs : List Example) (shown : List Branch) → AreShown g xs shown → ReadInputs g.sheet shown
reads_all g xs shown are = reads_zip g shown are.0 are.2 (are.1).guarded

-- the last branch takes each row
last_takes : (g : Ground) (row : ℕ) (shown : List Branch) (bs : List BranchData) → AllZip Shows shown bs → AreGuarded g bs → 0 < length bs → NoneTakes g.sheet row shown → ⊥
last_takes g row shown [] z h some none = absurd (omega arith)
last_takes g row [] (b ∷ bs) z h some none = absurd z
last_takes g row (x ∷ shown) (b ∷ []) z h some none =
    let is : x.guard ≡ None = (z.0).guard ∙ h.0 in
    All-head (λ (x : Branch). TakesRow g.sheet row x.guard → ⊥) x shown none (subst (λ (o : Option Guard). TakesRow g.sheet row o) (sym is) tt)
last_takes g row (x ∷ shown) (b ∷ c ∷ bs) z h some none =
    last_takes g row shown (c ∷ bs) z.1 h.2 (omega arith) (All-tail (λ (x : Branch). TakesRow g.sheet row x.guard → ⊥) x shown none)

-- placed examples have a list
module _ (rule : Placing) (fits : List Example → Type 0) (weight : List Example → ℕ → Type 0) where
  placed_grow : (so_far : List (List Example)) (xs : List Example) (all : List (List Example)) → PlacedFrom rule fits weight so_far xs all → length so_far ≤ length all
  placed_grow so_far [] all h = let same : length all ≡ length so_far = ap length h in omega arith
  placed_grow so_far (x ∷ xs) all h =
      let rest = placed_grow h.0 xs all h.2 in
      let step : length so_far ≤ length h.0 = ⊎_elim
      (λ j. let same : length h.0 ≡ length (slice_set so_far j.0 (j.1 ++ x ∷ [])) = ap length j.3 in let long = set_long so_far j.0 (j.1 ++ x ∷ []) in omega arith)
      (λ n. let same : length h.0 ≡ length (so_far ++ (x ∷ []) ∷ []) = ap length n.1 in let long = length-append so_far ((x ∷ []) ∷ []) in omega arith)
      h.1 in
      omega arith
    where
      set_long : {X : Type 0} (ys : List X) (k : ℕ) (y : X) → length (slice_set ys k y) ≡ length ys
      set_long [] k y = refl
      set_long (a ∷ ys) zero y = refl
      set_long (a ∷ ys) (suc k) y = ap suc (set_long ys k y)

  placed_some : (x : Example) (xs : List Example) (all : List (List Example)) → PlacedFrom rule fits weight [] (x ∷ xs) all → 0 < length all
  placed_some x xs all h =
      let rest = placed_grow h.0 xs all h.2 in
      let first : 0 < length h.0 = ⊎_elim
      (λ j. absurd (let e = (j.2).here in none_there j.0 j.1 e))
      (λ n. let same : length h.0 ≡ 1 = ap length n.1 in omega arith)
      h.1 in
      omega arith
    where
      none_there : (k : ℕ) (b : List Example) → slice_get [] k ≡ Some b → ⊥
      none_there k b e = cc

-- no branch takes the row only where there is no example
pub none_shown : (g : Ground) (xs : List Example) (shown : List Branch) (row : ℕ) → AreShown g xs shown → NoneTakes g.sheet row shown → xs ≡ []
none_shown g [] shown row are none = refl
none_shown g (e ∷ es) shown row are none =
    let some = placed_some (rule_of_profile g.settings.profile) (FitsOn g) (WeighsOn g) e es (lists_of are.0) (are.1).placed in
    let long = lists_long are.0 in
    absurd (last_takes g row shown are.0 are.2 (are.1).guarded (omega arith) none)

none_zip : (sheet : SheetData) (row : ℕ) (shown : List Branch) (bs : List BranchData) → AllZip Shows shown bs → NoneTakes sheet row shown → All (λ b. TakesRow sheet row b.guard → ⊥) bs
none_zip sheet row [] [] z h = All-nil (λ (b : BranchData). TakesRow sheet row b.guard → ⊥)
none_zip sheet row [] (b ∷ bs) z h = absurd z
none_zip sheet row (x ∷ shown) [] z h = absurd z
none_zip sheet row (x ∷ shown) (b ∷ bs) z h =
    All-cons (λ (b : BranchData). TakesRow sheet row b.guard → ⊥) b bs
    (λ t. All-head (λ (x : Branch). TakesRow sheet row x.guard → ⊥) x shown h (subst (λ (o : Option Guard). TakesRow sheet row o) (sym (z.0).guard) t))
    (none_zip sheet row shown bs z.1 (All-tail (λ (x : Branch). TakesRow sheet row x.guard → ⊥) x shown h))

pub parted : {X : Type 0} (xs : List X) (k : ℕ) (x : X) → slice_get xs k ≡ Some x → xs ≡ take k xs ++ x ∷ drop (suc k) xs
parted [] k x h = absurd cc
parted (a ∷ xs) zero x h = let e : a ≡ x = cc in ap (λ v. v ∷ xs) e
parted (a ∷ xs) (suc k) x h = ap (λ v. a ∷ v) (parted xs k x h)

pub front_long : {X : Type 0} (xs : List X) (k : ℕ) (x : X) → slice_get xs k ≡ Some x → length (take k xs) ≡ k
front_long [] k x h = absurd cc
front_long (a ∷ xs) zero x h = refl
front_long (a ∷ xs) (suc k) x h = ap suc (front_long xs k x h)

-- the branch that the first taker shows is the row's
pub record TakenAt (sheet : SheetData) (row k : ℕ) (bs : List BranchData) (x : Branch) : Type 0 where
  pub branch : BranchData
  pub place : IsBranchAt sheet row bs (suc k) branch
  pub shows : Shows x branch
  pub list : slice_get (lists_of bs) k ≡ Some branch.examples

pub taken_at : (sheet : SheetData) (shown : List Branch) (row k : ℕ) (bs : List BranchData) → AllZip Shows shown bs → (t : IsFirstTaker sheet row shown k) → TakenAt sheet row k bs t.branch
taken_at sheet shown row k bs z t =
    let found = zip_some Shows shown bs k t.branch z t.here in
    let b = found.0 in
    let size = front_long bs k b found.1 in
    let n : suc k ≡ suc (length (take k bs)) = omega arith in
    record {
      branch = b;
      place = (
        take k bs,
        drop (suc k) bs,
        parted bs k b found.1,
        none_zip sheet row (take k shown) (take k bs) (zip_take Shows k shown bs z) t.earlier,
        subst (λ (o : Option Guard). TakesRow sheet row o) (found.2).guard t.takes,
        n,
      );
      shows = found.2;
      list = map_at (λ (c : BranchData). c.examples) bs k b found.1;
    }

-- the cases of one more branch
abbrev pub case_list : BranchData → List CaseTree
case_list b = cases_of b.guard b.program

module _ (shown : List Branch) (bs : List BranchData) (i : ℕ) (x : Branch) (old new : List Case) (z : AllZip Shows shown bs) (lt : i < length shown) (at : x ≡ get_or shown i x)
    (yet : map case_tree old ≡ flat_map case_list (take i bs)) where
  one_more_case : (more : List CaseTree) → ((b : BranchData) → Shows x b → case_list b ≡ more) → map case_tree new ≡ map case_tree old ++ more → map case_tree new ≡ flat_map case_list (take (i + 1) bs)
  one_more_case more same after =
      let found = zip_some Shows shown bs i x z (here shown i x lt ∙ ap Some (sym at)) in
      after ∙ ap (λ (v : List CaseTree). v ++ more) yet ∙ ap (λ (v : List CaseTree). flat_map case_list (take i bs) ++ v) (sym (same found.0 found.2))
      ∙ sym (flat_push case_list (take i bs) found.0) ∙ ap (λ (v : List BranchData). flat_map case_list v) (sym (take_next bs i found.0 found.1))

  pub case_some : (h : Guard) (p : Program) → x.guard ≡ Some h → program_tree p ≡ program_tree x.program → new ≡ old ++ (record { guard = h; program = p }) ∷ [] → map case_tree new ≡ flat_map case_list (take (i + 1) bs)
  case_some h p guard program after =
      let more : List CaseTree = (record { guard = h; program = program_tree p }) ∷ [] in
      one_more_case more
      (λ b shows. ap (λ (o : Option Guard). cases_of o b.program) (sym shows.guard ∙ guard) ∙ ap (λ (q : Atoms). cases_of (Some h) q) (sym shows.program ∙ sym program))
      (ap (λ (v : List Case). map case_tree v) after ∙ map_push old (record { guard = h; program = p }))
    where
      map_push : (cs : List Case) (c : Case) → map case_tree (cs ++ c ∷ []) ≡ map case_tree cs ++ case_tree c ∷ []
      map_push [] c = refl
      map_push (d ∷ cs) c = ap (λ v. case_tree d ∷ v) (map_push cs c)

  pub case_none : x.guard ≡ None → new ≡ old → map case_tree new ≡ flat_map case_list (take (i + 1) bs)
  case_none guard after =
      one_more_case [] (λ b shows. ap (λ (o : Option Guard). cases_of o b.program) (sym shows.guard ∙ guard)) (ap (λ (v : List Case). map case_tree v) after ∙ sym (append_none (map case_tree old)))
    where
      append_none : {X : Type 0} (xs : List X) → xs ++ [] ≡ xs
      append_none [] = refl
      append_none (x ∷ xs) = ap (λ v. x ∷ v) (append_none xs)

-- the conditional program of a list that ends in this branch
switch_push : (bs : List BranchData) (b : BranchData) → switch_of (bs ++ b ∷ []) ≡ Some (record { cases = flat_map case_list bs; last = b.program })
switch_push [] b = refl
switch_push (c ∷ []) b = refl
switch_push (c ∷ d ∷ bs) b = ap (λ (o : Option SwitchTree). option_map (with_branch c) o) (switch_push (d ∷ bs) b)

zip_last : (others : List Branch) (last : Branch) (bs : List BranchData) → AllZip Shows (others ++ last ∷ []) bs → (front : List BranchData) × (b : BranchData) × (bs ≡ front ++ b ∷ []) × AllZip Shows others front × Shows last b
zip_last [] last [] z = absurd z
zip_last [] last (b ∷ []) z = ([], b, refl, tt, z.0)
zip_last [] last (b ∷ c ∷ bs) z = absurd z.1
zip_last (x ∷ others) last [] z = absurd z
zip_last (x ∷ others) last (b ∷ bs) z =
    let rest = zip_last others last bs z.1 in (b ∷ rest.0, rest.1, ap (λ (v : List BranchData). b ∷ v) rest.2, (z.0, rest.3), rest.4)

abbrev switch_with : List CaseTree → Atoms → SwitchTree
switch_with cases last = record { cases = cases; last = last }

pub switch_made : (shown others : List Branch) (last : Branch) (cases : List Case) (p : Program) → shown ≡ others ++ last ∷ [] → ((bs : List BranchData) → AllZip Shows others bs → map case_tree cases ≡ flat_map case_list bs)
    → program_tree p ≡ program_tree last.program → (bs : List BranchData) → AllZip Shows shown bs → Some (switch_tree (record { cases = cases; last = p })) ≡ switch_of bs
switch_made shown others last cases p is made program bs z =
    let ends = zip_last others last bs (subst (λ (v : List Branch). AllZip Shows v bs) is z) in
    let whole : SwitchTree = record { cases = flat_map case_list ends.0; last = (ends.1).program } in
    let first : map case_tree cases ≡ flat_map case_list ends.0 = made ends.0 ends.3 in
    let second : program_tree p ≡ (ends.1).program = program ∙ (ends.4).program in
    ap (λ (v : List CaseTree). Some (switch_with v (program_tree p))) first ∙ ap (λ (q : Atoms). Some (switch_with (flat_map case_list ends.0) q)) second ∙ sym (switch_push ends.0 ends.1) ∙ ap switch_of (sym ends.2)
