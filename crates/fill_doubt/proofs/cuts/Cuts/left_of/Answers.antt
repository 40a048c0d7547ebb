use Rattle.fill_tokens.specs.Span.{Ends}
use Rattle.fill_doubt.proofs.Cut.{sides_kept, sides_more}
use Rattle.fill_doubt.proofs.Flags.{on_ok}
use Rattle.fill_doubt.proofs.cuts.Cuts.left_of.Goals as goal

pub returns-in-Some-clause-kept : goal.returns-in-Some-clause-kept
returns-in-Some-clause-kept c = record {
  tokens = c.requires.tokens;
  lefts = sides_kept (λ r k. Ends r c.args.t.now k) c.args.self.now.lefts c.ask.new.self c.ask.ensures.kept c.requires.lefts;
  rights = c.requires.rights;
  last = c.requires.last;
}

pub returns-clause-kept : goal.returns-clause-kept
returns-clause-kept c = on_ok c.put.result c.put.ensures.more (λ e. record {
  tokens = c.in_ok-stops.ensures.kept;
  lefts = sides_more (λ r k. Ends r c.args.t.now k) c.ask.new.self.sides.items c.put.new.self.sides.items (record { seq = c.args.seq.now; positions = c.in_ok-stops.stops })
      (sides_kept (λ r k. Ends r c.args.t.now k) c.args.self.now.lefts c.ask.new.self c.ask.ensures.kept c.requires.lefts) e c.in_ok-stops.ensures.stops;
  rights = c.requires.rights;
  last = c.requires.last;
})
