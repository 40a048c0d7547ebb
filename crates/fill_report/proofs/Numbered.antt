-- Lists by numbers: branches, rows and the additions of rows.
use Rattle.std.proofs.Common.{◌≡◌, ℕ, zero, suc, ◌+◌, ◌-◌, ◌<◌, ◌≤◌, List, [], ◌∷◌, ◌++◌, length, Option, Some, slice_get, sym, ap, ◌∙◌, refl, subst, arith, append_assoc, append-nil, get_or, take}
use Rattle.std.specs.List.{AllZip, flat_map, range_with_len}
use Rattle.std.proofs.lemmas.List.FromFn.{length-range_with_len}
use Rattle.std.proofs.lemmas.List.Sums.{count_by-le-length}
use Rattle.std.proofs.lemmas.Option.{same_Some, none-some, slice_get_read}
use Rattle.std.proofs.lemmas.Slice.Zip.{AllZip-long}
use Rattle.fill_text.specs.Data.{SheetData}
use Rattle.fill_tree.specs.Meaning.{program_tree}
use Rattle.fill_tree.specs.Tree.{Atoms}
use Rattle.fill_tree.specs.declared.guard.Guard.{Guard}
use Rattle.fill_script.specs.declared.script.Entry.{Entry}
use Rattle.fill_session.specs.Branches.{BranchData}
use Rattle.fill_session.specs.State.{Shows}
use Rattle.fill_session.specs.declared.branch.Branch.{Branch}
use Rattle.fill_output.proofs.Numbered.{range_more}
use Rattle.fill_report.specs.Counts.{AreCounts, IsWithin}
use Rattle.fill_output.specs.Fields.{Fields}
use Rattle.fill_report.specs.Records.{branch_record, branch_records, shown_record, shown_records}
use Rattle.fill_report.specs.Report.{addition_at, additions}
use Rattle.fill_report.specs.Rows.{is_state}
use Rattle.fill_report.specs.declared.rows.Counts.{Counts}
use Rattle.fill_states.specs.declared.row_state.RowState.{RowState}
use Rattle.fill_states.specs.declared.row_state.RowState.TheVariants as state

-- the record of a branch stands at its place
pub shown_at : (n : ℕ) (bs : List Branch) (i : ℕ) (b : Branch) → slice_get bs i ≡ Some b → slice_get (shown_records n bs) i ≡ Some (shown_record (n + i) b)
shown_at n [] i b h = absurd (none-some b h)
shown_at n (x ∷ bs) zero b h =
    let e : n ≡ n + 0 = omega arith in
    ap (λ (y : Branch). Some (shown_record n y)) (same_Some x b h) ∙ ap (λ (k : ℕ). Some (shown_record k b)) e
shown_at n (x ∷ bs) (suc i) b h =
    let e : n + 1 + i ≡ n + suc i = omega arith in
    shown_at (n + 1) bs i b h ∙ ap (λ (k : ℕ). Some (shown_record k b)) e

pub branch_at : (bs : List Branch) (i : ℕ) (b : Branch) → i < length bs → b ≡ get_or bs i b → slice_get (shown_records 1 bs) i ≡ Some (shown_record (i + 1) b)
branch_at bs i b lt is =
    let e : 1 + i ≡ i + 1 = omega arith in
    shown_at 1 bs i b (slice_get_read bs (length bs) i b refl lt is) ∙ ap (λ (k : ℕ). Some (shown_record k b)) e

pub length_shown : (n : ℕ) (bs : List Branch) → length (shown_records n bs) ≡ length bs
length_shown n [] = refl
length_shown n (b ∷ bs) = ap suc (length_shown (n + 1) bs)

pub take_all : (xs : List Fields) (n : ℕ) → length xs ≤ n → take n xs ≡ xs
take_all [] zero le = refl
take_all [] (suc n) le = refl
take_all (x ∷ xs) zero le = absurd (omega arith)
take_all (x ∷ xs) (suc n) le = ap (λ (l : List Fields). x ∷ l) (take_all xs n (omega arith))

-- the branches that are shown have the records of the branches
pub shown_all : (n : ℕ) (shown : List Branch) (branches : List BranchData) → AllZip Shows shown branches → shown_records n shown ≡ branch_records n branches
shown_all n [] [] h = refl
shown_all n [] (b ∷ bs) h = absurd h
shown_all n (x ∷ xs) [] h = absurd h
shown_all n (x ∷ xs) (b ∷ bs) h =
    ap (λ (r : Fields). r ∷ shown_records (n + 1) xs)
    (ap (λ (y : Option Guard). branch_record n y (program_tree x.program)) h.0.guard ∙ ap (λ (p : Atoms). branch_record n b.guard p) h.0.program)
    ∙ ap (λ (l : List Fields). branch_record n b.guard b.program ∷ l) (shown_all (n + 1) xs bs h.1)

-- as many as rows at most have one state
pub within : (R : ℕ → RowState → Type 0) (c : Counts) (n : ℕ) (states : List RowState) → AllZip R (range_with_len 1 n) states → AreCounts c states → IsWithin c n
within R c n states h a =
    let long : length states ≡ n = AllZip-long R (range_with_len 1 n) states h ∙ length-range_with_len 1 n in
    record {
      given = omega (arith, a.given, count_by-le-length (is_state state.Given) states);
      sure = omega (arith, a.sure, count_by-le-length (is_state state.Sure) states);
      doubt = omega (arith, a.doubt, count_by-le-length (is_state state.Doubt) states);
      nothing = omega (arith, a.nothing, count_by-le-length (is_state state.Nothing) states);
      nothing_in_doubt = omega (arith, a.nothing_in_doubt, count_by-le-length (is_state state.NothingInDoubt) states);
    }

flat_push : (f : ℕ → List Entry) (xs : List ℕ) (x : ℕ) → flat_map f (xs ++ x ∷ []) ≡ flat_map f xs ++ f x
flat_push f [] x = append-nil (f x)
flat_push f (y ∷ xs) x = ap (λ (l : List Entry). f y ++ l) (flat_push f xs x) ∙ sym (append_assoc (f y) (flat_map f xs) (f x))

-- the additions of one row more
pub additions_more : (sheet : SheetData) (n : ℕ) → additions sheet (n + 1) ≡ additions sheet n ++ addition_at sheet (n + 1)
additions_more sheet n = ap (flat_map (addition_at sheet)) (range_more n) ∙ flat_push (addition_at sheet) (range_with_len 1 n) (n + 1)

additions_on : (sheet : SheetData) (n m : ℕ) → (rest : List Entry) × (additions sheet (n + m) ≡ additions sheet n ++ rest)
additions_on sheet n zero =
    let e : n + 0 ≡ n = omega arith in
    ([], ap (additions sheet) e ∙ sym (append-nil (additions sheet n)))
additions_on sheet n (suc m) =
    let before = additions_on sheet n m in
    let e : n + suc m ≡ n + m + 1 = omega arith in (
      before.0 ++ addition_at sheet (n + m + 1),
      ap (additions sheet) e ∙ additions_more sheet (n + m) ∙ ap (λ (l : List Entry). l ++ addition_at sheet (n + m + 1)) before.1
          ∙ append_assoc (additions sheet n) before.0 (addition_at sheet (n + m + 1)),
    )

-- the additions of the first rows stand before those of all
pub additions_before : (sheet : SheetData) (n rows : ℕ) → n ≤ rows → (rest : List Entry) × (additions sheet rows ≡ additions sheet n ++ rest)
additions_before sheet n rows le =
    let e : n + (rows - n) ≡ rows = omega arith in
    subst (λ (k : ℕ). (rest : List Entry) × (additions sheet k ≡ additions sheet n ++ rest)) e (additions_on sheet n (rows - n))
