-- The records of the best programs of a branch, and what their writing leaves.
use Rattle.std.proofs.Common.{◌≡◌, ℕ, zero, suc, ◌+◌, ◌<◌, ◌≤◌, List, [], ◌∷◌, length, map, Bool, true, Option, None, Some, Result, IfOk, slice_get, get_or, option_map, inr, sym, ap, ◌∙◌, refl, subst, arith}
use Rattle.std.proofs.lemmas.List.{length-map}
use Rattle.std.proofs.lemmas.Option.{same_Some, none-some, slice_get-map, slice_get_read}
use Rattle.std.proofs.lemmas.Slice.Zip.{AllZip-long}
use Rattle.fill_text.specs.Data.{nth}
use Rattle.fill_text.specs.declared.error.NoMemory.{NoMemory}
use Rattle.fill_tree.specs.Meaning.{program_tree}
use Rattle.fill_tree.specs.Tree.{Atoms}
use Rattle.fill_tree.specs.declared.tree.Program.{Program}
use Rattle.fill_tree.specs.declared.user.Example.{Example}
use Rattle.fill_space.specs.Best.{AreBestOn}
use Rattle.fill_space.specs.declared.ground.Ground.{Ground}
use Rattle.fill_session.specs.Branches.{AreBranches, BranchData, lists_of}
use Rattle.fill_session.specs.State.{AreShown, IsBranch, Shows}
use Rattle.fill_session.specs.declared.branch.Branch.{Branch}
use Rattle.fill_report.specs.Entries.{BestOf, QueryBegins, QueryWrites, refusal, told}
use Rattle.fill_report.specs.Output.{Leaves, WritesRecords}
use Rattle.fill_output.specs.Fields.{Fields}
use Rattle.fill_report.specs.Records.{best_record, best_records, no_branch_record}
use Rattle.fill_report.specs.Writing.{LeavesFirst, LeavesOne}
use Rattle.fill_output.specs.declared.halt.Halt.{Halt}
use Rattle.fill_report.specs.declared.tasks.Query.TheVariants as query
use Rattle.fill_report.proofs.Leaving.{leaves_answer, leaves_first, leaves_nothing, one_refused, query_none}

-- the record of a program stands at its place
record_at : (branch n : ℕ) (ps : List Program) (i : ℕ) (p : Program) → slice_get ps i ≡ Some p
    → slice_get (best_records branch n (map program_tree ps)) i ≡ Some (best_record branch (n + i) (program_tree p))
record_at branch n [] i p h = absurd (none-some p h)
record_at branch n (x ∷ ps) zero p h =
    let e : n ≡ n + 0 = omega arith in
    ap (λ (y : Program). Some (best_record branch n (program_tree y))) (same_Some x p h) ∙ ap (λ (k : ℕ). Some (best_record branch k (program_tree p))) e
record_at branch n (x ∷ ps) (suc i) p h =
    let e : n + 1 + i ≡ n + suc i = omega arith in
    record_at branch (n + 1) ps i p h ∙ ap (λ (k : ℕ). Some (best_record branch k (program_tree p))) e

pub program_at : (branch : ℕ) (ps : List Program) (i : ℕ) (p : Program) → i < length ps → p ≡ get_or ps i p
    → slice_get (best_records branch 1 (map program_tree ps)) i ≡ Some (best_record branch (i + 1) (program_tree p))
program_at branch ps i p lt is =
    let e : 1 + i ≡ i + 1 = omega arith in
    record_at branch 1 ps i p (slice_get_read ps (length ps) i p refl lt is) ∙ ap (λ (k : ℕ). Some (best_record branch k (program_tree p))) e

pub length_best : (branch n : ℕ) (ps : List Program) → length (best_records branch n (map program_tree ps)) ≡ length ps
length_best branch n [] = refl
length_best branch n (p ∷ ps) = ap suc (length_best branch (n + 1) ps)

past : {A : Type 0} (xs : List A) (n : ℕ) → ¬ ((1 ≤ n) × (n ≤ length xs)) → nth xs n ≡ None
past xs zero none = refl
past [] (suc i) none = refl
past (x ∷ xs) (suc zero) none = absurd (none (omega arith, omega arith))
past (x ∷ xs) (suc (suc i)) none = past xs (suc i) (λ h. none (omega arith, (let le = h.1 in omega arith)))

found : {A : Type 0} (xs : List A) (n : ℕ) → 1 ≤ n → n ≤ length xs → (x : A) × (nth xs n ≡ Some x)
found xs zero first last = absurd (omega arith)
found [] (suc i) first last = absurd (omega arith)
found (x ∷ xs) (suc zero) first last = (x, refl)
found (x ∷ xs) (suc (suc i)) first last = found xs (suc i) (omega arith) (omega arith)

list_at : (bs : List BranchData) (i : ℕ) (b : BranchData) → slice_get bs i ≡ Some b → slice_get (lists_of bs) i ≡ Some b.examples
list_at bs i b h = slice_get-map (λ (x : BranchData). x.examples) bs i ∙ ap (option_map (λ (x : BranchData). x.examples)) h

-- the branch of a number is that of its examples
numbered : (g : Ground) (examples : List Example) (branches : List BranchData) (n : ℕ) (b : BranchData) → AreBranches g examples branches → nth branches n ≡ Some b → IsBranch g examples n b.examples
numbered g examples branches zero b are is = absurd (none-some b is)
numbered g examples branches (suc i) b are is = (lists_of branches, i, are.placed, list_at branches i b is, refl)

-- of as many branches as are shown, the one of this number
of_shown : (g : Ground) (examples : List Example) (branch : ℕ) (shown : List Branch) (are : AreShown g examples shown) → 1 ≤ branch → branch ≤ length shown
    → (b : BranchData) × (nth are.0 branch ≡ Some b) × IsBranch g examples branch b.examples
of_shown g examples branch shown are first last =
    let long : length are.0 ≡ length shown = AllZip-long Shows shown are.0 are.2 in
    let it = found are.0 branch first (omega arith) in
    (it.0, it.1, numbered g examples are.0 branch it.0 are.1 it.1)

-- no more than k programs
pub few_best : (g : Ground) (examples : List Example) (branch k : ℕ) (shown : List Branch) (ps : List Program) → AreShown g examples shown → 1 ≤ branch → branch ≤ length shown
    → ((list : List Example) → IsBranch g examples branch list → AreBestOn g list k (map program_tree ps)) → length ps ≤ k
few_best g examples branch k shown ps are first last best =
    let it = of_shown g examples branch shown are first last in
    let few = (best it.0.examples it.2).few in
    let same = length-map ps program_tree in
    omega arith

module _ (g : Ground) (examples : List Example) (branch k : ℕ) (old new : Option (List ℕ)) where
  -- the best programs of a branch that there is
  pub best_left : (shown : List Branch) (programs : List Atoms) (r : Result Bool Halt) → AreShown g examples shown → 1 ≤ branch → branch ≤ length shown
      → ((list : List Example) → IsBranch g examples branch list → AreBestOn g list k programs) → LeavesFirst (best_records branch 1 programs) r old new
      → Leaves (QueryWrites g examples (query.Best branch k)) (QueryBegins g examples (query.Best branch k)) r old new 0 0
  best_left shown programs r are first last best l =
      let records = best_records branch 1 programs in
      let whole = told records in
      let it = of_shown g examples branch shown are first last in
      let of : BestOf g branch k (nth are.0 branch) whole =
      subst (λ (o : Option BranchData). BestOf g branch k o whole) (sym it.1) (programs, best it.0.examples it.2, refl) in
      let q : QueryWrites g examples (query.Best branch k) whole = (are.0, are.1, of) in
      leaves_first (QueryWrites g examples (query.Best branch k)) (QueryBegins g examples (query.Best branch k)) old new 0 0 0 (omega arith)
      (query_none g examples (query.Best branch k)) records r q (λ n. inr (whole, n, q, refl)) l

  -- the refusal where there is no such branch
  pub no_branch_left : (shown : List Branch) (made : Result Fields NoMemory) (r : Result Bool Halt) → AreShown g examples shown → ¬ ((1 ≤ branch) × (branch ≤ length shown))
      → IfOk made (λ m. m ≡ no_branch_record branch) → LeavesOne made true r old new
      → Leaves (QueryWrites g examples (query.Best branch k)) (QueryBegins g examples (query.Best branch k)) r old new 0 0
  no_branch_left shown made r are none h l =
      let long : length are.0 ≡ length shown = AllZip-long Shows shown are.0 are.2 in
      let missing : nth are.0 branch ≡ None = past are.0 branch (λ there. none (there.0, (let last = there.1 in omega arith))) in
      let q : (fields : Fields) → fields ≡ no_branch_record branch → QueryWrites g examples (query.Best branch k) (refusal fields) =
      λ fields m. (are.0, are.1, subst (λ (o : Option BranchData). BestOf g branch k o (refusal fields)) (sym missing) (ap refusal m)) in
      leaves_answer g examples (query.Best branch k) made (λ m. m ≡ no_branch_record branch) true 1 r old new h q (λ w b. b) (one_refused true refl) l

  -- there was no memory for the programs
  pub best_lost : new ≡ old → WritesRecords (QueryBegins g examples (query.Best branch k)) old new 0 0
  best_lost same =
      leaves_nothing (QueryWrites g examples (query.Best branch k)) (QueryBegins g examples (query.Best branch k)) old new 0 0 0 (omega arith)
      (query_none g examples (query.Best branch k)) same
