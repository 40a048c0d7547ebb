use Rattle.std.proofs.Common.{◌+◌, ◌∷◌, [], ◌++◌, length, sym, ap, ◌∙◌}
use Rattle.std.proofs.lemmas.List.{length-map}
use Rattle.fill_pool.specs.declared.pool.Extent.{Extent}
use Rattle.fill_pool.specs.Pool.{all_held, items_at}
use Rattle.fill_pool.proofs.Laid.{chunk_added}
use Rattle.fill_pool.proofs.pool.Pool.append.Goals as goal

pub invariant_of-self-2 : goal.invariant_of-self-2
invariant_of-self-2 g c =
    let from = c.len-from.result in let items = c.args.items.now in
    let e : Extent = record { chunk = c.in_ok-chunk.chunk; from = from; to = c.fill-to.result } in
    let done = chunk_added c.self.inside.chunks.items c.with_room.new.chunks.items c.self.inside.extents.items c.index.result.now c.index_mut.result.now c.fill-to.new.self items (length items) e
    c.self.invariant c.in_ok-chunk.ensures.ok c.in_ok-chunk.ensures.last c.index.ensures c.index_mut.ensures.value c.fill-to.ensures.items c.len-from.ensures c.fill-to.ensures.end in
    rw (c.push_reserved.ensures.items, c.reserve.ensures.items) done.0

pub returns-clause-ok : goal.returns-clause-ok
returns-clause-ok g c =
    let from = c.len-from.result in let items = c.args.items.now in
    let e : Extent = record { chunk = c.in_ok-chunk.chunk; from = from; to = c.fill-to.result } in
    let done = chunk_added c.self.inside.chunks.items c.with_room.new.chunks.items c.self.inside.extents.items c.index.result.now c.index_mut.result.now c.fill-to.new.self items (length items) e
    c.self.invariant c.in_ok-chunk.ensures.ok c.in_ok-chunk.ensures.last c.index.ensures c.index_mut.ensures.value c.fill-to.ensures.items c.len-from.ensures c.fill-to.ensures.end in (
      c.at.ensures ∙ c.len-number.ensures ∙ c.reserve.new.self.ok.0 ∙ ap length c.reserve.ensures.items ∙ sym (length-map c.self.inside.extents.items (items_at (all_held c.self.inside.chunks.items))) ∙ ap length c.self.view_is,
      rw (c.push_reserved.ensures.items, c.reserve.ensures.items) (done.1 ∙ ap (λ l. l ++ items ∷ []) c.self.view_is),
    )
