use Rattle.std.proofs.Common.{◌≡◌, arith, length, sym, subst, ap}
use Rattle.std.specs.Prelude.{Contains}
use Rattle.std.specs.List.{AllZip}
use Rattle.std.proofs.lemmas.Slice.Zip.{AllZip-long}
use Rattle.fill_text.proofs.ListReads.{on_ok}
use Rattle.fill_guard.specs.Matches.{IsMatchCount}
use Rattle.fill_guard.specs.declared.candidates.Candidate.{Candidate}
use Rattle.fill_guard.specs.Candidate.{KeepsCounted, KeepsRead, OfLeast}
use Rattle.fill_guard.proofs.CandidateLaws.{counts_of_cells, keeps_done}
use Rattle.fill_guard.proofs.candidates.keep_sequence.Goals as goal

pub returns-then-has_set : goal.returns-then-has_set
returns-then-has_set c = λ sheet inside outside in_cells out_cells.
    let has = c.has_set.ensures.0 c.if-has_set.true in
    let k : Candidate = has.0 in
    keeps_done sheet inside outside (OfLeast c.args.column c.args.seq.now 4) k c.args.candidates.now.items (subst (λ z. Contains z k) c.deref.ensures.value has.1) has.2

pub keep_leasts-requires : goal.keep_leasts-requires
keep_leasts-requires c =
    let long : length c.in_ok-outside.outside.items ≡ length c.args.outside.now = AllZip-long (IsMatchCount c.args.seq.now) c.args.outside.now c.in_ok-outside.outside.items c.in_ok-outside.ensures in
    let same : length c.deref-3.result.now ≡ length c.in_ok-outside.outside.items = ap length c.deref-3.ensures.value in
    record { few = omega arith }

pub returns : goal.returns
returns c =
    let column = c.args.column in
    let r = c.args.seq.now in
    let old = c.args.candidates.now.items in
    let new = c.keep_leasts.new.candidates.items in
    let ins = subst (AllZip (IsMatchCount r) c.args.inside.now) (sym c.deref-2.ensures.value) c.in_ok-inside.ensures in
    let outs = subst (AllZip (IsMatchCount r) c.args.outside.now) (sym c.deref-3.ensures.value) c.in_ok-outside.ensures in
    on_ok c.keep_leasts.result (KeepsCounted column r c.deref-2.result.now c.deref-3.result.now old new (OfLeast column r 4))
    (KeepsRead column c.args.inside.now c.args.outside.now old new (OfLeast column r 4))
    (λ keeps sheet inside outside in_cells out_cells.
    keeps sheet inside outside (counts_of_cells sheet column r inside c.args.inside.now c.deref-2.result.now in_cells ins)
    (counts_of_cells sheet column r outside c.args.outside.now c.deref-3.result.now out_cells outs))
    c.keep_leasts.ensures
