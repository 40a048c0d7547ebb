use Rattle.fill_space.proofs.Told.{some_made}
use Rattle.test_spaces.proofs.space.joined.Goals as goal

pub join-requires-clause-kept : goal.join-requires-clause-kept
join-requires-clause-kept g c =
    let h = rw c.in-Some.is at c.in_ok-one.ensures.stands in
    (h.0, c.space_of-2.ensures.older c.in-Some.one h.0 h.1)

pub returns : goal.returns
returns g c =
    let one = rw c.in-Some.is at c.in_ok-one.ensures.stands in
    let other = rw c.in-Some-2.is at c.in_ok-other.ensures.stands in
    let made = c.in_ok-join.ensures.both one.0 other.0 (c.space_of-2.ensures.older c.in-Some.one one.0 one.1) other.1 in
    some_made c.join.new.self c.in_ok-join.field-0 _ _ made
