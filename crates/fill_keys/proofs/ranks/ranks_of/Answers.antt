use Rattle.std.proofs.Common.{rules, ◌≡◌, ◌+◌, ◌<◌, ◌++◌, ◌∷◌, [], ℕ, suc, List, length, length-append, bytes_eq, Option, Some, unwrap_or, ap, sym, subst, ◌∙◌, arith}
use Rattle.std.specs.HashMap.{get_by}
use Rattle.std.proofs.lemmas.Map.Text.{hash_map_updates_str}
use Rattle.fill_text.specs.Data.{table_cell_at}
use Rattle.fill_keys.proofs.MetLaws.{RankedSoFar, ranked_all, ranked_more}
use Rattle.fill_keys.proofs.RankLaws.{rows_few}
use Rattle.fill_keys.proofs.ranks.ranks_of.Goals as goal

pub loop-row-preserved : goal.loop-row-preserved
loop-row-preserved c =
    let here = c.loop-row.invariant in
    let tables = c.args.tables.now in
    let count = here.count in
    let ranks = c.loop-row.ranks in
    let text = c.as_slice-cell.result.now in
    let r = c.unwrap_or-rank.result in
    let cell : ℕ → Option (List ℕ) = λ row. table_cell_at tables c.args.table row c.args.column in
    let pushed : c.push.new.self ≡ ranks ++ r ∷ [] = c.in_ok-push-in-Ok.ensures.ok in
    let few = rows_few tables c.args.table c.count-row-end.ensures.shape in
    let small : suc (length ranks) < 65536 = omega (arith, c.rows-row-end.ensures) in
    let at : cell c.loop-row.row ≡ Some text = c.cell.ensures ∙ ap Some (sym c.as_slice-cell.ensures) in
    let is : r ≡ unwrap_or (get_by (λ k. bytes_eq text k.now) c.loop-row.firsts) c.loop-row.row = search rules in
    record {
      count = (let l = ap length pushed in omega (arith, length-append ranks (r ∷ [])));
      ranked = subst (RankedSoFar cell (λ t. get_by (λ k. bytes_eq t k.now) c.insert.new.self)) (sym pushed)
          (ranked_more cell (λ t. get_by (λ k. bytes_eq t k.now) c.loop-row.firsts) (λ t. get_by (λ k. bytes_eq t k.now) c.insert.new.self) ranks text r here.ranked
          (subst (λ row. cell row ≡ Some text) (sym count) at) small (subst (λ row. r ≡ unwrap_or (get_by (λ k. bytes_eq text k.now) c.loop-row.firsts) row) (sym count) is)
          (hash_map_updates_str text c.loop-row.firsts c.insert.new.self _ c.in-Ok.ensures.updates));
    }

pub returns : goal.returns
returns c =
    let here = c.loop-row.invariant in
    let count = here.count in
    ranked_all c.args.tables.now c.args.table c.args.column (λ t. get_by (λ k. bytes_eq t k.now) c.loop-row.firsts) c.loop-row.ranks here.ranked (omega (arith, c.rows-row-end.ensures))
