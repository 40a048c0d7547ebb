use Rattle.std.proofs.Common.{subst, sym, ◌≡◌, ◌∙◌, ℕ}
use Rattle.std.specs.Prelude.{MatchOption}
use Rattle.fill_tokens.specs.Kind.{kind_of}
use Rattle.fill_tokens.specs.Span.{KindSpans}
use Rattle.fill_tokens.specs.declared.kind.Kind.{Kind}
use Rattle.fill_tokens.specs.declared.kind.Kind.TheVariants.{Run}
use Rattle.fill_tokens.proofs.spans.span_back.Goals as goal

pub returns-in-Run : goal.returns-in-Run
returns-in-Run c =
    let F : Kind → Type 0 = λ K. MatchOption c.span_run_back.result ((a : ℕ) → KindSpans K c.args.t.now a c.args.b → ⊥) (λ a. KindSpans K c.args.t.now a c.args.b) in
    let e : Run c.in-Run.class ≡ kind_of c.args.token = sym c.in-Run.is ∙ c.kind.ensures in
    subst F e c.span_run_back.ensures
