use Rattle.fill_arena.proofs.Items.{ok_on}
use Rattle.fill_object.proofs.KindLaws.{gains_source}
use Rattle.fill_object.proofs.sources.put_source.Goals as goal

pub returns : goal.returns
returns c =
    ok_on _ _ c.take.result c.take.ensures
    (λ u h. gains_source c.args.on.now (record { source = c.args.source; text = c.in_ok-text.text }) c.args.rivals.now.items c.take.new.rivals.items h c.in_ok-text.ensures)
