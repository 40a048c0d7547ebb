use Rattle.std.proofs.Common.{inr, sym, ap, ◌∙◌, subst}
use Rattle.fill_meet.specs.Index.{constant_hash}
use Rattle.fill_meet.specs.Mates.{IsMated}
use Rattle.fill_meet.specs.Meet.{AreApart}
use Rattle.fill_meet.specs.Rows.{AreAlikeDone, AreDone, ArePiecesDone, IsCovered}
use Rattle.fill_meet.specs.Sets.{AtomIn}
use Rattle.fill_meet.specs.declared.mates.Mated.{Mated}
use Rattle.fill_meet.proofs.MateLaws.{mated_grown}
use Rattle.fill_meet.proofs.RowLaws.{const_done, sub_done, whole_done}
use Rattle.fill_meet.proofs.Trials.{done_map}
use Rattle.fill_meet.proofs.rows.put_item.Goals as goal

pub returns-in-Const-clause-done : goal.returns-in-Const-clause-done
returns-in-Const-clause-done c =
    let arena = c.args.arena.now in
    let index = c.args.index.now in
    let numbers = c.put_alike.new.findings.rows.numbers.items in
    let x = c.args.x.now in
    let u = c.in-Const.text in
    let P = IsCovered arena numbers c.args.start x in
    let hash = c.hash_constant.ensures ∙ ap constant_hash c.len.ensures.value in
    done_map c.put_alike.result (AreAlikeDone arena index P c.hash_constant.result) (AreDone arena index.labels.sets.items P)
    (λ alike. const_done arena index c.requires.index.1.items P u (λ n j y apart. inr (subst (λ w. AreApart AtomIn arena w y) (sym c.in-Const.is) apart)) (subst (AreAlikeDone arena index P) hash alike)) c.put_alike.ensures.done

pub returns-in-Whole-clause-done : goal.returns-in-Whole-clause-done
returns-in-Whole-clause-done c =
    let arena = c.args.arena.now in
    let index = c.args.index.now in
    let numbers = c.put_alike-in-Whole.new.findings.rows.numbers.items in
    let x = c.args.x.now in
    let P = IsCovered arena numbers c.args.start x in
    done_map c.put_alike-in-Whole.result (AreAlikeDone arena index P 0) (AreDone arena index.labels.sets.items P)
    (λ alike. whole_done arena index c.requires.index.1.items P c.in-Whole.field-0 (λ n j y apart. inr (subst (λ w. AreApart AtomIn arena w y) (sym c.in-Whole.is) apart)) alike) c.put_alike-in-Whole.ensures.done

pub returns-in_ok-ends-in-Sub-clause-done : goal.returns-in_ok-ends-in-Sub-clause-done
returns-in_ok-ends-in-Sub-clause-done c =
    let arena = c.args.arena.now in
    let index = c.args.index.now in
    let sets = c.args.index.now.places.sets.items in
    let numbers = c.put_pieces.new.findings.rows.numbers.items in
    let old = c.find.new.self.lists.numbers.items in
    let new = c.find-in-Sub.new.self.lists.numbers.items in
    let mates = c.as_slice-numbers.result.now in
    let x = c.args.x.now in
    let p = c.in-Sub.lefts in
    let q = c.in-Sub.rights in
    let begins = c.in_ok-begins-in-Sub.begins in
    let ends = c.in_ok-ends-in-Sub.ends in
    let left : Mated = record { set = p; run = begins } in
    let right : Mated = record { set = q; run = ends } in
    let P = IsCovered arena numbers c.args.start x in
    let lefts = subst (λ l. IsMated arena sets l left) (sym c.as_slice-numbers.ensures.value) (mated_grown arena sets old new left c.in_ok-ends-in-Sub.ensures.grown c.in_ok-begins-in-Sub.ensures.found) in
    let rights = subst (λ l. IsMated arena sets l right) (sym c.as_slice-numbers.ensures.value) c.in_ok-ends-in-Sub.ensures.found in
    done_map c.put_pieces.result (ArePiecesDone arena index P mates begins ends) (AreDone arena index.labels.sets.items P)
    (λ pieces. sub_done arena index c.requires.index.1.items P c.in-Sub.field-0 p q mates begins ends lefts rights (λ n j y apart. inr (subst (λ w. AreApart AtomIn arena w y) (sym c.in-Sub.is) apart)) pieces) c.put_pieces.ensures.done
