use Rattle.std.proofs.Common.{◌≡◌, ℕ, List, Some, arith, length, ap, subst}
use Rattle.std.specs.Prelude.{Contains}
use Rattle.std.proofs.lemmas.Slice.Zip.{AllZip-long}
use Rattle.fill_text.specs.Data.{cell_at}
use Rattle.fill_guard.specs.Candidate.{OfColumn}
use Rattle.fill_guard.specs.declared.candidates.Candidate.{Candidate}
use Rattle.fill_guard.proofs.CandidateLaws.{keeps_done}
use Rattle.fill_guard.proofs.candidates.keep_column.Goals as goal

pub returns-then-has_set : goal.returns-then-has_set
returns-then-has_set c =
    let has = c.has_set.ensures.0 c.if-has_set.true in
    let k : Candidate = has.0 in
    keeps_done c.args.sheet.now c.args.inside.now c.args.outside.now (OfColumn c.args.token_set c.args.column) k c.args.candidates.now.items (subst (λ z. Contains z k) c.deref.ensures.value has.1) has.2

pub keep_sequences-requires-clause-few : goal.keep_sequences-requires-clause-few
keep_sequences-requires-clause-few c =
    let long : length c.in_ok-outside.outside.items ≡ length c.args.outside.now =
    AllZip-long (λ (row : ℕ) (t : List ℕ). cell_at c.args.sheet.now row c.args.column ≡ Some t) c.args.outside.now c.in_ok-outside.outside.items c.in_ok-outside.ensures in
    let same : length c.deref-3.result.now ≡ length c.in_ok-outside.outside.items = ap length c.deref-3.ensures.value in
    let few = c.requires.few in
    omega arith
