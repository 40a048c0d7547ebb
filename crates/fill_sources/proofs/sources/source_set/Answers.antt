use Rattle.std.proofs.Common.{◌∙◌, sym}
use Rattle.fill_arena.proofs.Lists.{extends_same}
use Rattle.fill_sources.proofs.Puts.{no_sources, sources_made}
use Rattle.fill_sources.proofs.sources.source_set.Goals as goal

pub returns-then-len-eq0-clause-made : goal.returns-then-len-eq0-clause-made
returns-then-len-eq0-clause-made c = no_sources c.args.arena.now c.args.arena.now c.args.items (sym c.len.ensures ∙ c.if-len-eq0.true) (extends_same c.args.arena.now)

pub returns-clause-made : goal.returns-clause-made
returns-clause-made c = sources_made c.args.arena.now c.intern_sources.new.self c.args.items c.in_ok-intern_sources.field-0 c.intern_sources.ensures.extends c.in_ok-intern_sources.ensures.ok
