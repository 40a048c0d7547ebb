use Rattle.std.proofs.Common.{List, ℕ, [], ◌∷◌, sym, subst, ◌∙◌}
use Rattle.fill_tokens.specs.Cuts.{IsRisingListOf}
use Rattle.fill_tokens.specs.Span.{Begins}
use Rattle.fill_doubt.proofs.Sought.{only_starts, pieces_at}
use Rattle.fill_doubt.proofs.tokens.Tokens.starts_of.Goals as goal

pub returns-clause-starts : goal.returns-clause-starts
returns-clause-starts c =
    let t = c.args.t.now in
    let x = c.index.result.now in
    let pieces = pieces_at t c.place_of.new.self c.args.token c.in_ok-i.i x c.in_ok-i.ensures.kept c.in_ok-i.ensures.there c.index.ensures in
    subst (λ (ks : List ℕ). IsRisingListOf (Begins (c.args.token ∷ []) t) ks) (sym (c.in_ok-starts.ensures.items ∙ c.as_slice.ensures.value)) (only_starts c.args.token t x.pieces.starts.items x.pieces.ends.items pieces)
