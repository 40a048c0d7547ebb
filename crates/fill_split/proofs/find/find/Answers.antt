use Rattle.std.proofs.Common.{◌≡◌, ◌∙◌, ◌+◌, Some, None, arith, subst, refl, sym, ◌++◌}
use Rattle.std.specs.Prelude.{MatchOption}
use Rattle.std.proofs.lemmas.Option.{slice_get-get_or}
use Rattle.fill_split.specs.declared.find.Choice.{Choice}
use Rattle.fill_split.specs.Keeping.{Keeps, KeepsMarks}
use Rattle.fill_split.specs.Choices.{IsLighter}
use Rattle.fill_split.proofs.Zips.{zip_some}
use Rattle.fill_split.proofs.Marks.{marks_trans}
use Rattle.fill_split.proofs.Choosing.{ChosenYet, yet_skip, yet_first, yet_more, yet_end, within_more, within_still}
use Rattle.fill_split.proofs.find.find.Goals as goal

pub join-requires-clause-kept : goal.join-requires-clause-kept
join-requires-clause-kept g c =
    let m = g.M.Maker in
    let at = slice_get-get_or c.args.branches.now c.loop-i.i c.index-branches-i.result c.loop-i-test.true in
    let r = c.requires.live in
    let q = zip_some (λ f b. m.stands c.args.maker.now f.kept b) c.args.branches.now r.0 c.loop-i.i _ r.1 at in
    (q.0, c.loop-i.invariant.older _ q.0 q.2)

pub join-requires-clause-one : goal.join-requires-clause-one
join-requires-clause-one g c = let r = c.requires.single in (r.0, c.loop-i.invariant.older _ r.0 r.1)

pub lighter-requires-clause-next : goal.lighter-requires-clause-next
lighter-requires-clause-next g c =
    let m = g.M.Maker in
    let at = slice_get-get_or c.args.branches.now c.loop-i.i c.index-branches-i.result c.loop-i-test.true in
    let r = c.requires.live in
    let q = zip_some (λ f b. m.stands c.args.maker.now f.kept b) c.args.branches.now r.0 c.loop-i.i _ r.1 at in
    let s = c.requires.single in
    let both = rw c.in-Ok-Some.field-0-is at c.in-Ok-Some.ensures.both in
    (q.0 ++ s.0, both q.0 s.0 (c.loop-i.invariant.older _ q.0 q.2) (c.loop-i.invariant.older _ s.0 s.1))

pub loop-i-preserved-in-Ok-None : goal.loop-i-preserved-in-Ok-None
loop-i-preserved-in-Ok-None g c =
    let m = g.M.Maker in
    let b = m.base c.args.maker.now in
    let at = slice_get-get_or c.args.branches.now c.loop-i.i c.index-branches-i.result c.loop-i-test.true in
    let e = c.in-Ok-None.ensures in
    let both = rw c.in-Ok-None.field-0-is at e.both in
    record {
      base = e.base ∙ c.loop-i.invariant.base;
      older = λ k l s. e.older k l (c.loop-i.invariant.older k l s);
      marks = marks_trans c.loop-i.invariant.marks e.marks;
      cost = let a = e.step in let d = c.loop-i.invariant.cost in omega arith;
      within = within_still c.loop-i.i c.loop-i.best c.loop-i.invariant.within;
      yet = yet_skip (m.stands c.args.maker.now) c.args.rule (m.fits b) (m.weight b) c.args.branches.now c.args.single (m.stands c.loop-i.maker) c.loop-i.i (m.stands c.join.new.self) e.older c.loop-i.invariant.older _ at
          c.loop-i.best c.loop-i.invariant.yet
          (λ k l s t. subst (λ b. m.fits b (k ++ l) → ⊥) c.loop-i.invariant.base (both k l s t));
    }

pub returns-in-First-clause-found : goal.returns-in-First-clause-found
returns-in-First-clause-found g c =
    let m = g.M.Maker in
    let b = m.base c.args.maker.now in
    let at = slice_get-get_or c.args.branches.now c.loop-i.i c.index-branches-i.result c.loop-i-test.true in
    let e = c.in-Ok-Some.ensures in
    let both = rw c.in-Ok-Some.field-0-is at e.both in
    yet_first (m.stands c.args.maker.now) c.args.rule (m.fits b) (m.weight b) c.args.branches.now c.args.single (m.stands c.loop-i.maker) c.loop-i.i (m.stands c.join.new.self) e.older c.loop-i.invariant.older _ at
    (record { branch = c.loop-i.i; kept = c.in-Ok-Some.kept; weight = None }) refl refl
    (λ l s. subst (λ b. m.fits b l) (e.base ∙ c.loop-i.invariant.base) (g.met.M.Maker.stands_fit c.join.new.self c.in-Ok-Some.kept l s))
    both c.in-First.is c.loop-i.best c.loop-i.invariant.yet

pub loop-i-preserved : goal.loop-i-preserved
loop-i-preserved g c =
    let m = g.M.Maker in
    let b = m.base c.args.maker.now in
    let at = slice_get-get_or c.args.branches.now c.loop-i.i c.index-branches-i.result c.loop-i-test.true in
    let e = c.in-Ok-Some.ensures in
    let base = e.base ∙ c.loop-i.invariant.base in
    let both = rw c.in-Ok-Some.field-0-is at e.both in
    let same = sym c.in-Ok.ensures.same in
    let r = c.requires.live in
    let q = zip_some (λ f b. m.stands c.args.maker.now f.kept b) c.args.branches.now r.0 c.loop-i.i _ r.1 at in
    let s = c.requires.single in
    let stand = both q.0 s.0 (c.loop-i.invariant.older _ q.0 q.2) (c.loop-i.invariant.older _ s.0 s.1) in
    let next : Choice _ = record { branch = c.loop-i.i; kept = c.in-Ok-Some.kept; weight = None } in
    let lighter = subst (λ b. MatchOption c.loop-i.best (c.in-Ok.choice ≡ next) (λ d. IsLighter (m.stands c.join.new.self) (m.weight b) d next c.in-Ok.choice)) base c.in-Ok.ensures.lighter in
    record {
      base = subst (λ w. m.base w ≡ b) same base;
      older = subst (λ w. Keeps (m.stands c.args.maker.now) (m.stands w)) same (λ k l s. e.older k l (c.loop-i.invariant.older k l s));
      marks = subst (λ w. KeepsMarks (m.valid c.args.maker.now) (m.valid w) (m.marked c.args.maker.now) (m.marked w)) same (marks_trans c.loop-i.invariant.marks e.marks);
      cost = let a = e.step in let d = c.loop-i.invariant.cost in omega arith;
      within = within_more (m.stands c.join.new.self) (m.weight b) c.loop-i.i c.loop-i.best next c.in-Ok.choice refl c.loop-i.invariant.within lighter;
      yet = subst (λ w. ChosenYet (m.stands c.args.maker.now) (m.stands w) c.args.rule (m.fits b) (m.weight b) c.args.branches.now c.args.single (c.loop-i.i + 1) (Some c.in-Ok.choice)) same
          (yet_more (m.stands c.args.maker.now) c.args.rule (m.fits b) (m.weight b) c.args.branches.now c.args.single (m.stands c.loop-i.maker) c.loop-i.i (m.stands c.join.new.self) e.older c.loop-i.invariant.older _ at
          next refl refl
          (λ l s. subst (λ b. m.fits b l) base (g.met.M.Maker.stands_fit c.join.new.self c.in-Ok-Some.kept l s))
          both (λ l v w. g.met.M.Maker.one_weight b l v w) c.in-Lightest.is c.loop-i.best c.in-Ok.choice (q.0 ++ s.0, stand) lighter c.loop-i.invariant.yet);
    }

pub returns-clause-found : goal.returns-clause-found
returns-clause-found g c =
    let m = g.M.Maker in
    let b = m.base c.args.maker.now in
    yet_end (m.stands c.args.maker.now) c.args.rule (m.fits b) (m.weight b) c.args.branches.now c.args.single (m.stands c.loop-i.maker) c.loop-i.i c.loop-i.best c.loop-i-test.false c.loop-i.invariant.yet
