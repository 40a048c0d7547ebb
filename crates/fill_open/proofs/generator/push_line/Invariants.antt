use Rattle.std.proofs.Common.{◌≡◌, ◌++◌, map, take}
use Rattle.fill_open.specs.Made.{character}
use Rattle.fill_open.proofs.generator.push_line.Given as goal

-- the signs so far
abbrev pub invariant-loop-sign : goal.invariant-loop-sign
invariant-loop-sign l = l.sheet ≡ l.initial.sheet ++ map (character l.first) (take l.sign-index l.signs)
