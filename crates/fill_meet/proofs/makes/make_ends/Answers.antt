use Rattle.std.proofs.Common.{◌≡◌, ◌<◌, get_or, length, Some, slice_get, sym, subst, arith}
use Rattle.std.proofs.lemmas.Option.{slice_get-get_or}
use Rattle.fill_arena.specs.Contents.{IsAtomSet}
use Rattle.fill_arena.proofs.Lists.{extends_on, extends_same}
use Rattle.fill_meet.specs.Guides.{IsSharedOf}
use Rattle.fill_meet.specs.Rows.{AreAlikeDone}
use Rattle.fill_meet.proofs.Grown.{grows_on, grows_same}
use Rattle.fill_meet.proofs.GuideLaws.{shared_of_on, task_stays}
use Rattle.fill_meet.proofs.LabelLaws.{labels_sets}
use Rattle.fill_meet.proofs.RowLaws.{ends_more, ends_start, ends_stay}
use Rattle.fill_meet.proofs.makes.make_ends.Goals as goal

pub loop-k-init : goal.loop-k-init
loop-k-init c =
    let index = c.args.task.now.guide.now.index in
    let numbers = c.args.task.now.guide.now.mates.lists.numbers.items in
    let P = IsSharedOf c.args.arena.now c.args.task.now c.args.zs.now in
    record {
      extends = extends_same c.args.arena.now;
      memo = c.requires.memo;
      task = c.requires.task;
      made = c.requires.made;
      grown = grows_same c.args.zs.now;
      done = ends_start c.args.arena.now index P numbers c.args.left c.args.ends.start;
    }

pub loop-k-preserved : goal.loop-k-preserved
loop-k-preserved c =
    let inv = c.loop-k.invariant in
    let task = c.args.task.now in
    let index = c.args.task.now.guide.now.index in
    let numbers = c.args.task.now.guide.now.mates.lists.numbers.items in
    let is = inv.task.guide.index in
    let old = c.loop-k.arena in
    let new = c.make_alike.new.arena in
    let made = c.in_ok-make_alike.ensures in
    let o = c.make_alike.ensures.extends in
    let within = c.requires.ends in
    let test = c.loop-k-test.true in
    let slice = c.as_slice-numbers.result.now in
    let low : c.loop-k.k < length numbers = omega arith in
    let lt : c.loop-k.k < length slice = subst (λ l. c.loop-k.k < length l) (sym c.as_slice-numbers.ensures.value) low in
    let r = get_or slice c.loop-k.k 0 in
    let at = subst (λ l. slice_get l c.loop-k.k ≡ Some r) c.as_slice-numbers.ensures.value (slice_get-get_or slice c.loop-k.k 0 lt) in
    let P = IsSharedOf old task c.loop-k.zs in
    let Q = IsSharedOf new task c.make_alike.new.zs in
    let on = shared_of_on old new o task c.loop-k.zs c.make_alike.new.zs made.grown in
    let atom_sets = labels_sets (IsAtomSet old) is.0 index.labels is.1.labels is.1.atom_sets in
    let before = ends_stay old new o index atom_sets P Q on numbers c.args.left c.args.ends.start c.loop-k.k inv.done in
    record {
      extends = extends_on c.args.arena.now old new inv.extends o;
      memo = made.memo;
      task = task_stays old new o task inv.task;
      made = made.made;
      grown = grows_on c.args.zs.now c.loop-k.zs c.make_alike.new.zs inv.grown made.grown;
      done = ends_more new index Q Q (λ n j y h. h) numbers c.args.left c.args.ends.start c.loop-k.k r at (subst (AreAlikeDone new index Q) c.hash_piece.ensures made.done) before;
    }

pub returns-clause-done : goal.returns-clause-done
returns-clause-done c = let test = c.loop-k-test.false in record { each = λ m n le lt at. c.loop-k.invariant.done.each m n le (omega arith) at }
