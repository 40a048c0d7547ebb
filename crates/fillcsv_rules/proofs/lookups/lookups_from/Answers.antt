use Rattle.std.proofs.Common.{◌≡◌, ◌∙◌, ◌+◌, [], length, false, Some, ap, drop, get_or, map, refl, sym}
use Rattle.std.proofs.lemmas.List.{get_or_read_under}
use Rattle.fill_apply.specs.Saved.{is_shown}
use Rattle.fillcsv_options.specs.Words.{lookup_data}
use Rattle.fillcsv_rules.specs.Lookups.{lookup_in, lookups_from}
use Rattle.fillcsv_rules.proofs.TableLines.{lookups_next}
use Rattle.fillcsv_rules.proofs.lookups.lookups_from.Goals as goal

pub loop-i-preserved : goal.loop-i-preserved
loop-i-preserved c =
    let lines = c.args.lines.now in
    let i = c.loop-i.i in
    let number = c.args.number in
    let before = map lookup_data c.loop-i.lookups.items in
    let tested = get_or_read_under lines i (length lines) c.index-lines-i.result [] c.index-lines-i.is c.loop-i-test.true refl in
    let read = get_or_read_under lines i (length lines) c.index-lines-i-in-loop-i.result [] c.index-lines-i-in-loop-i.is c.loop-i-test.true refl in
    let plain : is_shown (get_or lines i []) ≡ false = ap is_shown (sym tested) ∙ sym c.is_shown.ensures ∙ c.if-is_shown.false in
    let says : lookup_in (get_or lines i []) ≡ Some (lookup_data c.in_ok-lookup.lookup) = ap lookup_in (sym read) ∙ c.in_ok-lookup.ensures.ok in
    ap (λ l. lookups_from (number + (i + 1)) l (drop (i + 1) lines)) c.in_ok-push.ensures
    ∙ sym (lookups_next lines number i before (lookup_data c.in_ok-lookup.lookup) c.loop-i-test.true plain says) ∙ c.loop-i.invariant
