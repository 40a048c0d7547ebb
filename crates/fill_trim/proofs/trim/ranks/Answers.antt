use Rattle.std.proofs.Common.{◌≡◌, ◌+◌, ◌*◌, ◌/◌, length, sym, ap, ◌∙◌, arith}
use Rattle.std.proofs.lemmas.List.{length_push}
use Rattle.fill_trim.specs.Marks.{rank}
use Rattle.fill_trim.proofs.Ranks.{rank_zero, ranks_more}
use Rattle.fill_trim.proofs.trim.ranks.Goals as goal

pub loop-k-init : goal.loop-k-init
loop-k-init c =
    record { count = sym (rank_zero c.args.node_marks.now); long = ap length c.in_ok-ranks.ensures.items; each = λ n h. absurd (omega arith) }

pub loop-k-preserved : goal.loop-k-preserved
loop-k-preserved c =
    let node_marks = c.args.node_marks.now in
    let k = c.loop-k.k in
    let old = c.loop-k.invariant in
    let next : k * 32 + 32 ≡ (k + 1) * 32 = omega arith in
    record {
      count = c.count_on-count.ensures ∙ ap (rank node_marks) next;
      long = rw c.in_ok-push.ensures.items (length_push c.loop-k.ranks.items c.loop-k.count ∙ ap (λ n. n + 1) old.long);
      each = ranks_more c.loop-k.ranks.items c.push.new.self.items node_marks k c.loop-k.count c.in_ok-push.ensures.items old.long old.count old.each;
    }

pub returns : goal.returns
returns c =
    let node_marks = c.args.node_marks.now in
    let k = c.loop-k.k in
    let old = c.loop-k.invariant in
    let past = c.loop-k-test.false in
    let most = c.loop-k.auto.k-end in
    let end : k ≡ length node_marks / 32 = omega arith in
    let long : length c.push-2.new.self.items ≡ k + 1 = rw c.in_ok-push-2.ensures.items (length_push c.loop-k.ranks.items c.loop-k.count ∙ ap (λ n. n + 1) old.long) in
    let each = ranks_more c.loop-k.ranks.items c.push-2.new.self.items node_marks k c.loop-k.count c.in_ok-push-2.ensures.items old.long old.count old.each in
    record { long = omega arith; each = λ n h. each n (omega arith) }
