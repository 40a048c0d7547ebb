use Rattle.std.proofs.Common.{◌≡◌, inl, inr, Some, sym, ap, ◌∙◌, subst, arith}
use Rattle.std.proofs.lemmas.Bool.{cases_lt}
use Rattle.std.proofs.lemmas.Option.{slice_get_within}
use Rattle.fill_arena.specs.Contents.{In}
use Rattle.fill_arena.specs.Entries.{entry_of}
use Rattle.fill_arena.specs.Hash.{entry_hash}
use Rattle.fill_arena.specs.Index.{IsFree, slot_at}
use Rattle.fill_arena.proofs.Indexed.{free_here}
use Rattle.fill_arena.proofs.index.Index.find.Goals as goal

pub returns-in_default : goal.returns-in_default
returns-in_default c =
    let entries = c.args.entries.now in
    let slots = c.args.self.now in
    let e = c.args.entry.now in
    let turn = c.loop-turn.turn in
    let none = rw c.in_default.is at c.number.ensures in
    let fresh = subst (λ h. In (slot_at h turn) slots → ⊥) c.hash_entry-hash.ensures none in
    subst (λ h. IsFree entries slots e (slot_at h turn)) (sym c.hash_entry-hash.ensures) (free_here entries slots c.requires e turn c.loop-turn.invariant fresh)

pub get-requires : goal.get-requires
get-requires c =
    let within = slice_get_within c.args.self.now c.in-Some.number (slot_at c.hash_entry-hash.result c.loop-turn.turn) c.in-Some.ensures in
    let long = c.requires.long in
    omega arith

pub returns-then-same_entry : goal.returns-then-same_entry
returns-then-same_entry c =
    c.get.ensures ∙ ap Some (c.same_entry.ensures.0 c.if-same_entry.true)

pub loop-turn-preserved : goal.loop-turn-preserved
loop-turn-preserved c t less =
    let n = c.in-Some.number in
    let e = c.args.entry.now in
    let turn = c.loop-turn.turn in
    let x = entry_of c.get.result in
    let there = c.get.ensures in
    elim (cases_lt t turn) [
      | inl lt ↦ c.loop-turn.invariant t lt
      | inr past ↦
          let at : t ≡ turn = omega arith in
          let slot = c.in-Some.ensures ∙ ap (λ h. Some (slot_at h turn)) c.hash_entry-hash.ensures ∙ ap (λ u. Some (slot_at (entry_hash e) u)) (sym at) in (
            n,
            slot,
            λ h.
                let both : Some x ≡ Some e = sym there ∙ h in
                let same : x ≡ e = cc in
                let yes = c.same_entry.ensures.1 same in
                let not = c.if-same_entry.false in
                cc,
          )
    ]
