use Rattle.std.proofs.Common.{◌≡◌, ◌++◌, ◌∷◌, [], ℕ, List, length, subst}
use Rattle.fill_text.proofs.ListReads.{on_ok}
use Rattle.fill_tokens.specs.Kind.{run_has}
use Rattle.fill_tokens.specs.Span.{KindSpans}
use Rattle.fill_tokens.specs.declared.kind.RunClass.{RunClass}
use Rattle.fill_tokens.specs.declared.kind.Kind.TheVariants.{Run}
use Rattle.fill_spans.specs.Pieces.{AreExactly}
use Rattle.fill_spans.specs.Read.{AreRead}
use Rattle.fill_spans.proofs.RunLaws.{read_all, read_last}
use Rattle.fill_spans.proofs.runs.finish.Goals as goal

pub returns-in-None : goal.returns-in-None
returns-in-None c = λ class t e r.
    let xs = c.args.pieces.now.starts.items in
    let ys = c.args.pieces.now.ends.items in
    read_all (run_has class) t c.args.n xs ys e (subst (AreRead (run_has class) t c.args.n xs ys) c.in-None.is r)

pub returns-in-Some : goal.returns-in-Some
returns-in-Some c =
    let xs = c.args.pieces.now.starts.items in
    let ys = c.args.pieces.now.ends.items in
    let xs2 = c.put.new.pieces.starts.items in
    let ys2 = c.put.new.pieces.ends.items in
    on_ok c.put.result ((xs2 ≡ xs ++ c.in-Some.start ∷ []) × (ys2 ≡ ys ++ c.args.n ∷ []))
    ((class : RunClass) (t : List ℕ) → c.args.n ≡ length t → AreRead (run_has class) t c.args.n xs ys c.args.run → AreExactly (KindSpans (Run class) t) xs2 ys2)
    (λ e class t f r. read_last (run_has class) t c.args.n c.in-Some.start xs ys xs2 ys2 f e.0 e.1 (subst (AreRead (run_has class) t c.args.n xs ys) c.in-Some.is r))
    c.put.ensures
