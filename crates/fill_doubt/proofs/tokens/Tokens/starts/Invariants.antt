use Rattle.std.proofs.Common.{drop, ◌<◌, length}
use Rattle.fill_tokens.specs.Cuts.{IsRisingListOf}
use Rattle.fill_tokens.specs.Span.{Begins}
use Rattle.fill_doubt.specs.Tokens.{AreReadIn}
use Rattle.fill_doubt.proofs.tokens.Tokens.starts.Given as goal

abbrev pub invariant-loop-left : goal.invariant-loop-left
invariant-loop-left l = record {
  within : l.left < length l.seq;
  read : AreReadIn l.t l.self;
  starts : IsRisingListOf (Begins (drop l.left l.seq) l.t) l.starts.items;
}

abbrev pub decreases-loop-left : goal.decreases-loop-left
decreases-loop-left l = l.left
