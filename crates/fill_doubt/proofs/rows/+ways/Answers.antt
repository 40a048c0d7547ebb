use Rattle.std.proofs.Common.{◌<◌, ◌≤◌, ◌++◌, ◌∷◌, [], ℕ, List, length, map, ⊎_elim, sym, ap, subst, ◌∙◌, arith}
use Rattle.std.proofs.lemmas.Bool.{false≢true}
use Rattle.fill_arena.proofs.Scan.{here}
use Rattle.fill_doubt.specs.Answers.{Covers, TextsHave}
use Rattle.fill_doubt.specs.Rows.{Find, FindsBy, IsSought}
use Rattle.fill_doubt.specs.declared.conditions.Cells.{Cells}
use Rattle.fill_doubt.proofs.Appended.{no_items}
use Rattle.fill_doubt.proofs.Covered.{InAll, covers_alike, covers_gains, covers_same, items_end, items_more, items_start}
use Rattle.fill_doubt.proofs.Flags.{on_ok}
use Rattle.fill_doubt.proofs.Ways.{NextFinds, last_find, next_find}
use Rattle.fill_doubt.proofs.rows.+ways.Goals as goal

pub put_ways-returns-then-is_enough : goal.put_ways-returns-then-is_enough
put_ways-returns-then-is_enough n c =
    let few = c.is_enough.ensures.few c.if-is_enough.true in
    let none = c.is_enough.ensures.none c.if-is_enough.true in
    covers_same (IsSought c.args.look.now.few) (TextsHave c.args.found.now) (Find c.args.look.now (map (λ cell. cell.now) c.args.cells.now) c.args.part c.args.conditions.now)
    (λ o s r. ⊎_elim (λ l. absurd (false≢true (sym l ∙ few))) (λ e. subst (TextsHave c.args.found.now) (sym e) none) s)

pub put_ways-returns-in_default : goal.put_ways-returns-in_default
put_ways-returns-in_default n c =
    let cells = map (λ cell. cell.now) c.args.cells.now in
    let look = c.args.look.now in
    let few = IsSought look.few in
    let a = TextsHave c.args.found.now in
    let b = TextsHave c.look_up_cells.new.found in
    let F = FindsBy look (record { texts = cells; part = c.args.part }) in
    on_ok c.look_up_cells.result c.look_up_cells.ensures (λ g.
    subst (λ (cs : List Cells). Covers few a b (Find look cells c.args.part cs)) (sym (no_items c.args.conditions.now c.in_default.ensures.cases))
    (covers_alike few a b F (Find look cells c.args.part []) (last_find look cells c.args.part) (covers_gains few a b F g)))

pub put_ways-loop-i-init : goal.put_ways-loop-i-init
put_ways-loop-i-init n c =
    let look = c.args.look.now in
    let first = c.in-Some.first.now in
    items_start (IsSought look.few) (NextFinds first c.in-Some.rest.now look (map (λ cell. cell.now) c.args.cells.now) c.args.part) first.cells.items (TextsHave c.args.found.now)

pub put_ways-loop-i-preserved : goal.put_ways-loop-i-preserved
put_ways-loop-i-preserved n c =
    let look = c.args.look.now in
    let first = c.in-Some.first.now in
    let xs = first.cells in
    let x = c.index-next.result.now in
    let lt : c.loop-i.i < length xs.items = (let n = xs.ok.0 in let l = c.len-i-end.ensures in let t = c.loop-i-test.true in omega arith) in
    let F = NextFinds first c.in-Some.rest.now look (map (λ cell. cell.now) c.args.cells.now) c.args.part in
    items_more (IsSought look.few) F xs.items (TextsHave c.args.found.now) (TextsHave c.loop-i.found) (TextsHave c.put_longer.new.found) c.loop-i.i x (here xs.items c.loop-i.i x lt c.index-next.ensures) c.loop-i.invariant
    (subst (λ p. Covers (IsSought look.few) (TextsHave c.loop-i.found) (TextsHave c.put_longer.new.found) (Find look (map (λ cell. cell.now) c.args.cells.now ++ x.text.now ∷ []) p c.in-Some.rest.now)) c.either.ensures c.in_ok-put_longer.ensures)

pub put_ways-returns : goal.put_ways-returns
put_ways-returns n c =
    let look = c.args.look.now in
    let cells = map (λ cell. cell.now) c.args.cells.now in
    let first = c.in-Some.first.now in
    let rest = c.in-Some.rest.now in
    let xs = first.cells in
    let few = IsSought look.few in
    let a = TextsHave c.args.found.now in
    let b = TextsHave c.loop-i.found in
    let past : length xs.items ≤ c.loop-i.i = (let n = xs.ok.0 in let l = c.len-i-end.ensures in let t = c.loop-i-test.false in omega arith) in
    let F = NextFinds first rest look cells c.args.part in
    subst (λ (cs : List Cells). Covers few a b (Find look cells c.args.part cs)) (sym c.in-Some.ensures.cases.0)
    (covers_alike few a b (λ o. InAll few F xs.items o) (Find look cells c.args.part (first ∷ rest)) (next_find first rest look cells c.args.part) (items_end few F xs.items a b c.loop-i.i past c.loop-i.invariant))

pub put_longer-returns : goal.put_longer-returns
put_longer-returns n c =
    let look = c.args.look.now in
    on_ok c.put_ways.result c.put_ways.ensures (λ h.
    subst (λ (ts : List (List ℕ)). Covers (IsSought look.few) (TextsHave c.args.found.now) (TextsHave c.put_ways.new.found) (Find look ts c.args.part c.args.conditions.now))
    (ap (λ (xs : List _). map (λ cell. cell.now) xs) c.as_slice.ensures.value ∙ c.in_ok-longer.ensures) h)
