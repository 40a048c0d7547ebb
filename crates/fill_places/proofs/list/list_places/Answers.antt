use Rattle.fill_places.proofs.RowLaws.{all_lists}
use Rattle.fill_places.proofs.list.list_places.Goals as goal

pub returns : goal.returns
returns c = all_lists c.args.token_set c.args.t.now c.args.k c.args.lefts.now _ c.push_fixed.new.out c.push_between.new.out c.requires.lefts c.in_ok-out.ensures
    c.in_ok-push_fixed.ensures c.in_ok-push_between.ensures
