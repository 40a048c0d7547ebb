use Rattle.std.proofs.lemmas.Bool.{false≢true}
use Rattle.fill_keys.proofs.PartLaws.{is_minimal, not_minimal}
use Rattle.fill_keys.proofs.RankLaws.{ok_same}
use Rattle.fill_keys.proofs.keys.is_minimal_key.Goals as goal

pub returns-then-has_part : goal.returns-then-has_part
returns-then-has_part c = (
  λ t. absurd (false≢true t),
  λ m. absurd (not_minimal c.args.tables.now c.args.ranked.now.table c.args.columns.now c.args.keys.now c.requires.set c.requires.smaller (c.has_part.ensures.0 c.if-has_part.true) m),
)

pub returns : goal.returns
returns c =
    let tables = c.args.tables.now in
    let table = c.args.ranked.now.table in
    ok_same _ _ c.is_key.result (c.is_key.ensures tables c.requires.ranked)
    (λ key same. (
      λ t. is_minimal tables table c.args.columns.now c.args.keys.now c.requires.set c.requires.smaller (λ w. false≢true (c.if-has_part.ensures.1 w)) (same.0 t),
      λ m. same.1 m.distinguish,
    ))
