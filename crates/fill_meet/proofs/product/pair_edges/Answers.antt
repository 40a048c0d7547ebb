use Rattle.std.proofs.Common.{◌≡◌, ◌<◌, length, sym, ap, ◌∙◌, subst}
use Rattle.fill_trim.specs.Trim.{AreEdges}
use Rattle.fill_meet.specs.Joins.{AreJoined, AreLive}
use Rattle.fill_meet.specs.Product.{IsProduct}
use Rattle.fill_meet.specs.Ties.{AreOrdered, AreTies}
use Rattle.fill_meet.proofs.Trials.{ok_map}
use Rattle.fill_meet.proofs.WalksOn.{both_some, joined_edges, joined_product}
use Rattle.fill_meet.proofs.product.pair_edges.Goals as goal

pub join_ties-requires-clause-ties : goal.join_ties-requires-clause-ties
join_ties-requires-clause-ties c =
    let ordered = subst (AreOrdered c.args.nodes) (sym c.as_slice-ties.ensures) c.requires.ordered in
    let long : length c.as_slice.result.now ≡ c.args.nodes = ap length c.as_slice.ensures.value ∙ c.in_ok-live.ensures.long in
    subst (λ n. AreOrdered n c.as_slice-ties.result.now) (sym long) ordered

pub returns-clause-product : goal.returns-clause-product
returns-clause-product c = λ h w xs ys nodes are.
    let ties = c.as_slice-ties.result.now in
    let marks = c.as_slice.result.now in
    let found = subst (AreTies c.args.arena.now w xs ys) (sym c.as_slice-ties.ensures) are in
    let live = subst (λ n. AreLive n ties marks) nodes (subst (AreLive c.args.nodes ties) (sym c.as_slice.ensures.value) c.in_ok-live.ensures) in
    let some = both_some h w (subst (λ n. 0 < n) nodes c.requires.some) in
    ok_map c.join_ties.result (AreJoined c.join_ties.new.arena marks ties) (IsProduct c.join_ties.new.arena h w xs ys)
    (λ edges j. joined_product c.args.arena.now c.join_ties.new.arena c.join_ties.ensures.extends h w xs ys ties found marks live edges j some.0 some.1) c.join_ties.ensures.joined

pub returns-clause-edges : goal.returns-clause-edges
returns-clause-edges c =
    let ties = c.as_slice-ties.result.now in
    let marks = c.as_slice.result.now in
    let ordered = subst (AreOrdered c.args.nodes) (sym c.as_slice-ties.ensures) c.requires.ordered in
    ok_map c.join_ties.result (AreJoined c.join_ties.new.arena marks ties) (AreEdges c.args.nodes) (λ edges j. joined_edges c.join_ties.new.arena marks c.args.nodes ties edges ordered j) c.join_ties.ensures.joined
