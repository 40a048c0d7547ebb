use Rattle.std.proofs.Common.{take}
use Rattle.fill_tokens.specs.Cuts.{IsRisingListOf}
use Rattle.fill_tokens.specs.Span.{Ends}
use Rattle.fill_doubt.specs.Tokens.{AreReadIn}
use Rattle.fill_doubt.proofs.tokens.Tokens.stops.Given as goal

abbrev pub invariant-loop-i : goal.invariant-loop-i
invariant-loop-i l = record {
  read : AreReadIn l.t l.self;
  stops : IsRisingListOf (Ends (take l.i l.seq) l.t) l.stops.items;
}
