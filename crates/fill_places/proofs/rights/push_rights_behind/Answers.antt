use Rattle.std.proofs.Common.{arith, length, refl, subst}
use Rattle.std.proofs.lemmas.Bool.{iff_false}
use Rattle.std.proofs.lemmas.Option.{slice_get_read}
use Rattle.fill_places.specs.Sides.{RightAt}
use Rattle.fill_places.specs.Entries.{BeginsWithIt}
use Rattle.fill_places.proofs.EntryLaws.{grows_none}
use Rattle.fill_places.proofs.LayerLaws.{it_more}
use Rattle.fill_places.proofs.MarkLaws.{right_unknown}
use Rattle.fill_places.proofs.rights.push_rights_behind.Goals as goal

pub returns-then-not-is_of : goal.returns-then-not-is_of
returns-then-not-is_of c =
    let set = c.args.token_set in
    let t = c.args.t.now in
    let x = c.args.token in
    grows_none (RightAt set t) (length t) (BeginsWithIt x c.args.layer.now (length c.args.layer.now)) c.args.out.now.items
    (λ r h k m. right_unknown set t x h.1.seq (iff_false c.is_of.ensures c.if-not-is_of.true) k (subst (λ z. RightAt set t z k) h.4 m))

pub loop-e-preserved : goal.loop-e-preserved
loop-e-preserved c = it_more (RightAt c.args.token_set c.args.t.now) (length c.args.t.now) c.args.token c.args.layer.now c.args.j c.loop-e.e-index c.e-item.result
    c.args.out.now.items c.loop-e.out.items c.push_right.new.out.items c.requires.layer
    (slice_get_read c.args.layer.now (length c.args.layer.now) c.loop-e.e-index c.e-item.result refl (omega arith) c.e-item.is)
    c.loop-e.invariant c.in_ok-push_right.ensures

pub push_right-requires-clause-short : goal.push_right-requires-clause-short
push_right-requires-clause-short c =
    let few = (c.requires.layer.each c.loop-e.e-index c.e-item.result
    (slice_get_read c.args.layer.now (length c.args.layer.now) c.loop-e.e-index c.e-item.result refl (omega arith) c.e-item.is)).1 in
    omega (arith, c.requires.short)
