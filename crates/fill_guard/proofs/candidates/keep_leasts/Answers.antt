use Rattle.std.proofs.Common.{◌≡◌, ℕ, arith, subst}
use Rattle.fill_guard.specs.Candidate.{KeepsCounted, OfLeast}
use Rattle.fill_guard.proofs.CandidateLaws.{leasts_more}
use Rattle.fill_guard.proofs.candidates.keep_leasts.Goals as goal

pub loop-least-preserved : goal.loop-least-preserved
loop-least-preserved c = λ sheet inside outside in_counts out_counts.
    leasts_more sheet inside outside c.args.column c.args.seq.now c.loop-least.least c.args.candidates.now.items c.loop-least.candidates.items c.keep_signs.new.candidates.items
    (omega arith) (c.loop-least.invariant sheet inside outside in_counts out_counts) (c.in_ok-keep_signs.ensures sheet inside outside in_counts out_counts)

pub returns : goal.returns
returns c =
    let e : c.loop-least.least ≡ 4 = omega arith in
    subst (λ (m : ℕ). KeepsCounted c.args.column c.args.seq.now c.args.inside.now c.args.outside.now c.args.candidates.now.items c.loop-least.candidates.items
    (OfLeast c.args.column c.args.seq.now m)) e c.loop-least.invariant
