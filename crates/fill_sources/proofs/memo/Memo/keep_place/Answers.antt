use Rattle.std.proofs.Common.{arith}
use Rattle.std.proofs.lemmas.Result.{on_ok_weaker}
use Rattle.fill_sources.proofs.Finding.{recalled_put}
use Rattle.fill_sources.proofs.memo.Memo.keep_place.Goals as goal

pub returns : goal.returns
returns c =
    let long = c.len.ensures in
    let within = c.if-k-len.false in
    on_ok_weaker c.put.result (λ more on texts d right made.
    record {
      indexes = right.indexes;
      places = recalled_put on.settings.profile.tokens d texts c.args.self.now.places.items right.places c.args.k c.index_mut.result.now c.put.new.self (omega arith) c.index_mut.ensures.value
          (λ v there is. more on.settings.profile.tokens d v is (c.found_of.ensures on.settings.profile.tokens d v c.args.at (made v there)));
      sources = right.sources;
      parts = right.parts;
    })
    c.put.ensures
