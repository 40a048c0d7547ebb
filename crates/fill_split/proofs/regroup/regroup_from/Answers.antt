use Rattle.std.proofs.Common.{take}
use Rattle.fill_split.proofs.regroup.regroup_from.Goals as goal

pub front-requires : goal.front-requires
front-requires g c = let r = c.requires.stands in (take c.args.at r.0, rw (c.split_at.ensures.front, c.as_slice.ensures.value, c.split_at-2.ensures.front, c.as_slice-2.ensures) r.2)

pub place_rest-requires-clause-stands : goal.place_rest-requires-clause-stands
place_rest-requires-clause-stands g c =
    let r = c.requires.stands in
    (r.0, r.1, c.in-Ok.ensures.stands (take c.args.at r.0) (rw (c.split_at.ensures.front, c.as_slice.ensures.value, c.split_at-2.ensures.front, c.as_slice-2.ensures) r.2))

pub returns-in-Ok-place_rest-clause-folds : goal.returns-in-Ok-place_rest-clause-folds
returns-in-Ok-place_rest-clause-folds g c =
    λ items z s.
    c.in-Ok-place_rest.ensures.folds items z (c.in-Ok.ensures.stands (take c.args.at items) (rw (c.split_at.ensures.front, c.as_slice.ensures.value, c.split_at-2.ensures.front, c.as_slice-2.ensures) s))

pub returns-in-Err-place_rest-clause-refused : goal.returns-in-Err-place_rest-clause-refused
returns-in-Err-place_rest-clause-refused g c =
    λ items z s.
    rw (← c.in-Ok.ensures.rule)
    (c.in-Err-place_rest.ensures.refused items z (c.in-Ok.ensures.stands (take c.args.at items) (rw (c.split_at.ensures.front, c.as_slice.ensures.value, c.split_at-2.ensures.front, c.as_slice-2.ensures) s)))
