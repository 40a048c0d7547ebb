use Rattle.std.proofs.Common.{◌≤◌, length, take, ap, ◌∙◌, arith}
use Rattle.std.proofs.lemmas.List.{length-map}
use Rattle.fill_pool.specs.Pool.{all_held, items_at}
use Rattle.fill_pool.proofs.Laid.{chunks_left}
use Rattle.fill_pool.proofs.pool.Pool.cut.Goals as goal

pub invariant_of-self-2 : goal.invariant_of-self-2
invariant_of-self-2 g c =
    let s = c.self.inside in let n = c.count-count.result in
    let le : n ≤ length s.extents.items = omega (arith, c.requires, c.count-count.ensures, ap length c.self.view_is, length-map s.extents.items (items_at (all_held s.chunks.items))) in
    (chunks_left s.chunks.items c.truncate-2.new.self.items s.extents.items c.truncate.new.self.items n c.index-last.result.now c.index_mut.result.now c.keep.new.self
    c.self.invariant (omega arith) le c.truncate.ensures.items c.index-last.ensures c.truncate-2.ensures.items c.index_mut.ensures.value c.keep.ensures.items).0

pub returns : goal.returns
returns g c =
    let s = c.self.inside in let n = c.count-count.result in
    let le : n ≤ length s.extents.items = omega (arith, c.requires, c.count-count.ensures, ap length c.self.view_is, length-map s.extents.items (items_at (all_held s.chunks.items))) in
    (chunks_left s.chunks.items c.truncate-2.new.self.items s.extents.items c.truncate.new.self.items n c.index-last.result.now c.index_mut.result.now c.keep.new.self
    c.self.invariant (omega arith) le c.truncate.ensures.items c.index-last.ensures c.truncate-2.ensures.items c.index_mut.ensures.value c.keep.ensures.items).1
    ∙ ap (take n) c.self.view_is ∙ ap (λ m. take m c.args.self.now) c.count-count.ensures
