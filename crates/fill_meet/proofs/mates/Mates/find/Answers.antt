use Rattle.std.proofs.Common.{◌≡◌, ◌≤◌, length, refl, arith}
use Rattle.fill_meet.specs.declared.mates.Mated.{Mated}
use Rattle.fill_meet.proofs.MateLaws.{mated, mates_more}
use Rattle.fill_meet.proofs.mates.Mates.find.Goals as goal

pub returns-clause-mates : goal.returns-clause-mates
returns-clause-mates c =
    let sets = c.args.index.now.places.sets.items in
    let old = c.args.self.now.lists.numbers.items in
    let new = c.list_mates.new.lists.numbers.items in
    let put = c.in_ok-list_mates.ensures in
    let m : Mated = record { set = c.args.s; run = record { start = c.len-start.result; end = c.len.result } } in
    let low : c.len-start.result ≤ length new = (let a = c.len-start.ensures in let b = put.grown.long in omega arith) in
    let end : c.len.result ≡ length new = (let e = c.len.ensures in omega arith) in
    let is = mated c.args.arena.now sets c.args.index.now.holders.list.items new m c.len-start.result c.places.result.now c.places.ensures refl low end c.requires.held.holders c.requires.sets (λ p n at s. put.each p n at s) in
    mates_more c.args.arena.now sets old new c.args.self.now.mate_runs.items c.push.new.self.items m put.grown c.in_ok-push.ensures.items is c.requires.mates

pub returns-clause-found : goal.returns-clause-found
returns-clause-found c =
    let sets = c.args.index.now.places.sets.items in
    let new = c.list_mates.new.lists.numbers.items in
    let put = c.in_ok-list_mates.ensures in
    let m : Mated = record { set = c.args.s; run = record { start = c.len-start.result; end = c.len.result } } in
    let low : c.len-start.result ≤ length new = (let a = c.len-start.ensures in let b = put.grown.long in omega arith) in
    let end : c.len.result ≡ length new = (let e = c.len.ensures in omega arith) in
    mated c.args.arena.now sets c.args.index.now.holders.list.items new m c.len-start.result c.places.result.now c.places.ensures refl low end c.requires.held.holders c.requires.sets (λ p n at s. put.each p n at s)
