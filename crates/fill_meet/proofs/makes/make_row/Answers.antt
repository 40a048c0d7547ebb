use Rattle.std.proofs.Common.{◌+◌, ap, ◌∙◌, subst}
use Rattle.fill_arena.specs.declared.entry.AtomItem.TheVariants.{Const, Whole, Sub}
use Rattle.fill_meet.specs.Guides.{IsMadeTo, IsSharedOf}
use Rattle.fill_meet.specs.Index.{constant_hash}
use Rattle.fill_meet.specs.Rows.{AreAlikeDone, ArePiecesDone}
use Rattle.fill_meet.specs.Sets.{IsItem}
use Rattle.fill_meet.specs.declared.mates.Mated.{Mated}
use Rattle.fill_meet.proofs.GuideLaws.{made_next, out_shared, task_stays}
use Rattle.fill_meet.proofs.ItemPairs.{item_stays}
use Rattle.fill_meet.proofs.RowLaws.{const_done, sub_done, whole_done}
use Rattle.fill_meet.proofs.Trials.{done_both}
use Rattle.fill_meet.proofs.makes.make_row.Goals as goal

pub returns-in-Const-clause-made : goal.returns-in-Const-clause-made
returns-in-Const-clause-made c =
    let task = c.args.task.now in
    let index = c.args.task.now.guide.now.index in
    let new = c.make_alike.new.arena in
    let zs = c.make_alike.new.zs in
    let u = c.in-Const.text in
    let later = task_stays c.args.arena.now new c.make_alike.ensures.extends task c.requires.task in
    let hx = item_stays c.args.arena.now new c.make_alike.ensures.extends task.first task.place (Const u) (subst (IsItem c.args.arena.now task.first task.place) c.in-Const.is c.item_at.ensures.at) in
    let P = IsSharedOf new task zs in
    let hash = c.hash_constant-hash.ensures ∙ ap constant_hash c.len.ensures.value in
    done_both c.make_alike.result (IsMadeTo new task task.place zs) (AreAlikeDone new index P c.hash_constant-hash.result) (IsMadeTo new task (task.place + 1) zs)
    (λ made alike. made_next new task later zs (const_done new index later.guide.index.1.items P u (out_shared new task (Const u) zs hx) (subst (AreAlikeDone new index P) hash alike)) made) c.make_alike.ensures.made c.make_alike.ensures.done

pub returns-in-Whole-clause-made : goal.returns-in-Whole-clause-made
returns-in-Whole-clause-made c =
    let task = c.args.task.now in
    let index = c.args.task.now.guide.now.index in
    let new = c.make_alike-in-Whole.new.arena in
    let zs = c.make_alike-in-Whole.new.zs in
    let b = c.in-Whole.field-0 in
    let later = task_stays c.args.arena.now new c.make_alike-in-Whole.ensures.extends task c.requires.task in
    let hx = item_stays c.args.arena.now new c.make_alike-in-Whole.ensures.extends task.first task.place (Whole b) (subst (IsItem c.args.arena.now task.first task.place) c.in-Whole.is c.item_at.ensures.at) in
    let P = IsSharedOf new task zs in
    done_both c.make_alike-in-Whole.result (IsMadeTo new task task.place zs) (AreAlikeDone new index P 0) (IsMadeTo new task (task.place + 1) zs)
    (λ made alike. made_next new task later zs (whole_done new index later.guide.index.1.items P b (out_shared new task (Whole b) zs hx) alike) made) c.make_alike-in-Whole.ensures.made c.make_alike-in-Whole.ensures.done

pub returns-in-Some-run_of-clause-made : goal.returns-in-Some-run_of-clause-made
returns-in-Some-run_of-clause-made c =
    let task = c.args.task.now in
    let index = c.args.task.now.guide.now.index in
    let mates = c.args.task.now.guide.now.mates in
    let new = c.make_pieces.new.arena in
    let zs = c.make_pieces.new.zs in
    let b = c.in-Sub.field-0 in
    let p = c.in-Sub.lefts in
    let q = c.in-Sub.rights in
    let begins = c.in-Some.begins in
    let ends = c.in-Some-run_of.ends in
    let later = task_stays c.args.arena.now new c.make_pieces.ensures.extends task c.requires.task in
    let hx = item_stays c.args.arena.now new c.make_pieces.ensures.extends task.first task.place (Sub b p q) (subst (IsItem c.args.arena.now task.first task.place) c.in-Sub.is c.item_at.ensures.at) in
    let P = IsSharedOf new task zs in
    let lefts = later.guide.mates c.in-Some.ensures.0 (record { set = p; run = begins }) c.in-Some.ensures.1 in
    let rights = later.guide.mates c.in-Some-run_of.ensures.0 (record { set = q; run = ends }) c.in-Some-run_of.ensures.1 in
    done_both c.make_pieces.result (IsMadeTo new task task.place zs) (ArePiecesDone new index P mates.lists.numbers.items begins ends) (IsMadeTo new task (task.place + 1) zs)
    (λ made pieces. made_next new task later zs (sub_done new index later.guide.index.1.items P b p q mates.lists.numbers.items begins ends lefts rights (out_shared new task (Sub b p q) zs hx) pieces) made) c.make_pieces.ensures.made
    c.make_pieces.ensures.done

pub make_pieces-requires-clause-begins : goal.make_pieces-requires-clause-begins
make_pieces-requires-clause-begins c =
    let m : Mated = record { set = c.in-Sub.lefts; run = c.in-Some.begins } in
    (c.requires.task.guide.mates c.in-Some.ensures.0 m c.in-Some.ensures.1).within

pub make_pieces-requires-clause-ends : goal.make_pieces-requires-clause-ends
make_pieces-requires-clause-ends c =
    let m : Mated = record { set = c.in-Sub.rights; run = c.in-Some-run_of.ends } in
    (c.requires.task.guide.mates c.in-Some-run_of.ensures.0 m c.in-Some-run_of.ensures.1).within
