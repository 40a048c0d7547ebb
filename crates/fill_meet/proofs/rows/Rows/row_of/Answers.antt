use Rattle.std.proofs.Common.{◌≡◌, Some, slice_get, sym, subst}
use Rattle.fill_arena.specs.Contents.{EachIn}
use Rattle.fill_meet.specs.Rows.{IsRowTold}
use Rattle.fill_meet.specs.declared.rows.Slot.{Slot}
use Rattle.fill_meet.proofs.RowLaws.{told_grown}
use Rattle.fill_meet.proofs.Trials.{each_lent, kept_somewhere}
use Rattle.fill_meet.proofs.rows.Rows.row_of.Goals as goal

pub returns-in-Some-clause-row : goal.returns-in-Some-clause-row
returns-in-Some-clause-row c =
    let slot : Slot = record { set = c.args.s; row = c.in-Some.row } in
    let there = c.in-Some.ensures in
    c.requires.state.slots there.0 (Some slot) (subst (λ l. slice_get l there.0 ≡ Some (Some slot)) c.as_slice.ensures.value there.1)

pub returns-clause-state : goal.returns-clause-state
returns-clause-state c =
    let arena = c.args.arena.now in
    let labels = c.args.index.now.labels.sets.items in
    let new = c.find_row.new.self.findings.rows.numbers.items in
    let slot : Slot = record { set = c.args.s; row = c.in_ok-row.row } in
    let found = c.in_ok-row.ensures in
    let grown : EachIn (IsRowTold arena labels new) c.args.self.now.slots.items = λ k r at. told_grown arena labels _ new found.grown r (c.requires.state.slots k r at) in
    let old = subst (EachIn (IsRowTold arena labels new)) (sym c.as_mut_slice.ensures.value) grown in
    record {
      search = found.state;
      slots = each_lent (IsRowTold arena labels new) _ _ c.keep_row.new.slots _
          (kept_somewhere (IsRowTold arena labels new) c.as_mut_slice.result.now c.keep_row.new.slots (Some slot) c.keep_row.ensures found.row old) grown;
    }
