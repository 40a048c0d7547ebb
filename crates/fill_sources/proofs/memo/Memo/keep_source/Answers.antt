use Rattle.std.specs.HashMap.{get}
use Rattle.fill_sources.specs.Sets.{IsSourceMade, pair_eq}
use Rattle.fill_sources.proofs.Made.{pair_same, put_right}
use Rattle.fill_sources.proofs.memo.Memo.keep_source.Goals as goal

pub returns-in-Ok : goal.returns-in-Ok
returns-in-Ok c on texts d right made = record {
  indexes = right.indexes;
  places = right.places;
  sources = put_right pair_eq pair_same (IsSourceMade on texts d) (λ q. get pair_eq c.args.self.now.sources q) (λ q. get pair_eq c.insert.new.self q) (c.args.k, c.args.depth) c.args.made.now c.in-Ok.ensures.updates.0 made right.sources;
  parts = right.parts;
}
