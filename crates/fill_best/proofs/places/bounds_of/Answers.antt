use Rattle.fill_best.proofs.Standing.{first_bounds}
use Rattle.fill_best.proofs.places.bounds_of.Goals as goal

pub returns : goal.returns
returns c cs l r lefts rights =
    first_bounds c.args.prices.now c.keep_small.ensures cs l r c.args.limit c.args.lefts.now c.args.rights.now lefts rights c.new-bounds.result.items c.put_products.new.ranking.items c.new-bounds.ensures.items c.in_ok-put_products.ensures
