use Rattle.fill_arena.proofs.Items.{ok_on}
use Rattle.fill_object.proofs.KindLaws.{gains_atom}
use Rattle.fill_object.proofs.atoms.put_atom.Goals as goal

pub returns : goal.returns
returns c =
    ok_on _ _ c.take.result c.take.ensures
    (λ u h. gains_atom c.args.on.now (record { atom = c.args.atom; text = c.in_ok-text.text }) c.args.rivals.now.items c.take.new.rivals.items h c.in_ok-text.ensures)
