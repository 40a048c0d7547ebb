use Rattle.fill_tokens.specs.Span.{Begins}
use Rattle.fill_doubt.proofs.Cut.{sides_kept, sides_more}
use Rattle.fill_doubt.proofs.Flags.{on_ok}
use Rattle.fill_doubt.proofs.cuts.Cuts.right_of.Goals as goal

pub returns-in-Some-clause-kept : goal.returns-in-Some-clause-kept
returns-in-Some-clause-kept c = record {
  tokens = c.requires.tokens;
  rights = sides_kept (λ r k. Begins r c.args.t.now k) c.args.self.now.rights c.ask.new.self c.ask.ensures.kept c.requires.rights;
  lefts = c.requires.lefts;
  last = c.requires.last;
}

pub returns-clause-kept : goal.returns-clause-kept
returns-clause-kept c = on_ok c.put.result c.put.ensures.more (λ e. record {
  tokens = c.in_ok-starts.ensures.kept;
  rights = sides_more (λ r k. Begins r c.args.t.now k) c.ask.new.self.sides.items c.put.new.self.sides.items (record { seq = c.args.seq.now; positions = c.in_ok-starts.starts })
      (sides_kept (λ r k. Begins r c.args.t.now k) c.args.self.now.rights c.ask.new.self c.ask.ensures.kept c.requires.rights) e c.in_ok-starts.ensures.starts;
  lefts = c.requires.lefts;
  last = c.requires.last;
})
