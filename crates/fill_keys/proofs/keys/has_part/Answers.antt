use Rattle.std.proofs.Common.{sym, subst, refl, arith}
use Rattle.std.proofs.lemmas.Bool.{false≢true}
use Rattle.fill_keys.specs.Search.{IsWithin}
use Rattle.fill_keys.proofs.PartLaws.{none_more}
use Rattle.fill_keys.proofs.keys.has_part.Goals as goal

pub returns-then-is_within : goal.returns-then-is_within
returns-then-is_within c = (
  λ t. (c.loop-key.key-index, c.key-item.result, omega arith, sym c.key-item.is, subst (IsWithin c.args.columns.now) c.as_slice.ensures (c.is_within.ensures.0 c.if-is_within.true)),
  λ some. refl,
)

pub loop-key-preserved : goal.loop-key-preserved
loop-key-preserved c =
    none_more (IsWithin c.args.columns.now) c.args.keys.now c.loop-key.key-index c.key-item.result (omega arith) c.key-item.is
    (λ w. false≢true (c.if-is_within.ensures.1 (subst (IsWithin c.args.columns.now) (sym c.as_slice.ensures) w))) c.loop-key.invariant

pub returns : goal.returns
returns c = (
  λ t. absurd (false≢true t),
  λ some. absurd (c.loop-key.invariant some.0 some.1 (omega (arith, some.2)) some.3 some.4),
)
