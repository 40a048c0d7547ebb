use Rattle.std.proofs.Common.{arith}
use Rattle.fill_sources.proofs.Finding.{recalled_at}
use Rattle.fill_sources.proofs.memo.Memo.place.Goals as goal

pub returns-in-Nowhere : goal.returns-in-Nowhere
returns-in-Nowhere c on texts d right v there =
    let long = c.len.ensures in let within = c.if-k-len.false in
    recalled_at on.settings.profile.tokens d texts c.args.self.now.places.items right.places c.args.k c.index.result.now v (omega arith) c.index.ensures there
    c.as_slice-found.result.now c.as_slice-found.ensures.value c.args.at c.index-found-at.result _ c.if-at-found.false c.index-found-at.is c.in-Nowhere.is

pub returns-in-In : goal.returns-in-In
returns-in-In c on texts d right v there =
    let long = c.len.ensures in let within = c.if-k-len.false in
    recalled_at on.settings.profile.tokens d texts c.args.self.now.places.items right.places c.args.k c.index.result.now v (omega arith) c.index.ensures there
    c.as_slice-found.result.now c.as_slice-found.ensures.value c.args.at c.index-found-at.result _ c.if-at-found.false c.index-found-at.is c.in-In.is
