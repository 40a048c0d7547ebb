use Rattle.std.proofs.Common.{ℕ, Option, Some, sym, subst}
use Rattle.fill_arena.specs.Contents.{EachIn}
use Rattle.fill_meet.specs.Memory.{CommonTold}
use Rattle.fill_meet.specs.declared.verdicts.Verdict.{Verdict}
use Rattle.fill_meet.proofs.Trials.{each_lent, kept_somewhere}
use Rattle.fill_meet.proofs.memo.Memo.keep_places.Goals as goal

pub returns : goal.returns
returns c = λ arena right made.
    let verdict : Verdict (Option ℕ) = record { s = c.args.s; t = c.args.t; verdict = c.args.made.now } in
    let old = subst (EachIn (CommonTold arena)) (sym c.as_mut_slice.ensures.value) right.places in
    record {
      within = right.within;
      places = each_lent (CommonTold arena) _ _ c.tell_places.new.places _
          (kept_somewhere (CommonTold arena) c.as_mut_slice.result.now c.tell_places.new.places (Some verdict) c.tell_places.ensures made old) right.places;
      sources = right.sources;
      atoms = right.atoms;
    }
