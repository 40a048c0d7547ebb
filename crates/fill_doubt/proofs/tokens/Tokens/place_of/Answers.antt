use Rattle.std.proofs.Common.{◌≡◌, length, refl, arith}
use Rattle.fill_doubt.specs.declared.tokens.TokenPieces.{TokenPieces}
use Rattle.fill_doubt.specs.declared.tokens.Tokens.{Tokens}
use Rattle.fill_doubt.proofs.Cut.{last_at}
use Rattle.fill_doubt.proofs.Sought.{read_more}
use Rattle.fill_doubt.proofs.tokens.Tokens.place_of.Goals as goal

pub returns-clause-kept : goal.returns-clause-kept
returns-clause-kept c =
    let x : TokenPieces = record { token = c.args.token; pieces = c.in_ok-pieces.pieces } in
    let new : Tokens = record { classes = c.args.self.now.classes; read = c.push.new.self } in
    read_more c.args.t.now c.args.self.now new x c.requires refl c.in_ok-push.ensures.items c.in_ok-pieces.ensures

pub returns-clause-there : goal.returns-clause-there
returns-clause-there c =
    let x : TokenPieces = record { token = c.args.token; pieces = c.in_ok-pieces.pieces } in
    let xs = c.args.self.now.read in
    let i : c.len-i.result ≡ length xs.items = (let n = xs.ok.0 in let l = c.len-i.ensures in omega arith) in
    (x, last_at xs.items c.push.new.self.items x c.len-i.result c.in_ok-push.ensures.items i, refl)
