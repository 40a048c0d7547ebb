use Rattle.std.proofs.Common.{◌<◌, ◌↔◌, ◌∷◌, Bor, ℕ, [], List, length, map, IsTrue, sym, subst, arith}
use Rattle.std.proofs.lemmas.Bool.{false≢true}
use Rattle.fill_doubt.specs.Rows.{Fit}
use Rattle.fill_doubt.proofs.Appended.{no_items}
use Rattle.fill_doubt.proofs.Ways.{last_fit, last_unfit}
use Rattle.fill_doubt.proofs.rows.is_last.Goals as goal

pub returns-then-cells-gt0 : goal.returns-then-cells-gt0
returns-then-cells-gt0 c = ((λ t. absurd (false≢true t)), (λ h. absurd (some_unfit c.args.cells.now (omega (arith, c.if-cells-gt0.true)) h)))
  where
    some_unfit : (xs : List (Bor (List ℕ))) → 0 < length xs → ¬ (Fit [] (map (λ cell. cell.now) xs) c.args.part)
    some_unfit [] lt h = absurd (omega arith)
    some_unfit (x ∷ xs) lt h = last_unfit x.now (map (λ cell. cell.now) xs) c.args.part h

pub returns : goal.returns
returns c = subst (λ (xs : List _). IsTrue c.args.part ↔ Fit [] (map (λ cell. cell.now) xs) c.args.part) (sym (no_items c.args.cells.now (omega (arith, c.if-cells-gt0.false)))) (last_fit c.args.part)
