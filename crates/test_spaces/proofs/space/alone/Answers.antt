use Rattle.std.proofs.Common.{ℕ, ◌<◌, [], ◌∷◌, length, arith}
use Rattle.std.proofs.lemmas.List.Elements.{AllZip-get_or}
use Rattle.fill_space.specs.Spaces.{Succeeds}
use Rattle.test_spaces.proofs.space.alone.Goals as goal

pub returns : goal.returns
returns c =
    let space : ℕ = c.args.space in
    let some : 0 < length (space ∷ []) = omega arith in
    let succeeds = AllZip-get_or (Succeeds c.args.spaces.now c.compact.new.self) (space ∷ []) c.compact.new.live 0 space c.index-live-0.result c.in_ok-compact.ensures.stand some in
    (c.requires.0, succeeds c.requires.0 c.requires.1)
