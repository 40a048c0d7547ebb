use Rattle.std.proofs.Common.{◌≡◌, ℕ, List, Some, slice_get, sym, ◌∙◌, subst, arith}
use Rattle.std.specs.List.{AllZip}
use Rattle.fill_arena.specs.Contents.{IsGraph}
use Rattle.fill_arena.specs.Named.{IsNamed}
use Rattle.fill_space.specs.Spaces.{SpacesData, Succeeds, spaces_over}
use Rattle.fill_space.proofs.Compacted.{copies_stand, lent_back}
use Rattle.fill_space.proofs.Copies.{copied_renamed}
use Rattle.fill_space.proofs.spaces.Spaces.compact.Goals as goal

pub copy-requires : goal.copy-requires
copy-requires c =
    let listed = c.as_mut_slice.ensures.value ∙ c.in_ok-graphs.ensures in
    λ k x h.
    let stands = c.requires k x (subst (λ (ks : List ℕ). slice_get ks k ≡ Some x) listed h) in
    subst (λ (v : SpacesData). IsGraph v.arena x) (sym c.self.view_is) stands.1.graph

pub invariant_of-self : goal.invariant_of-self
invariant_of-self c =
    let over = c.self.inside.ground in
    let arena = c.self.inside.arena in
    let made = c.in_ok-self-inside.field-0 in
    let graphs = c.in_ok-graphs.graphs in
    let new = c.copy.new.live in
    let lent = c.as_mut_slice.ensures.value ∙ c.in_ok-graphs.ensures in
    let listed = c.as_slice.ensures.value ∙ c.in_ok-listed.ensures in
    let put = c.as_slice-copies.ensures.value ∙ lent_back graphs.items c.as_mut_slice.result.now new graphs.len (let len = graphs.ok.0 in omega arith) c.as_mut_slice.ensures.value c.in_ok-self-inside.ensures.length in
    let renamed = copied_renamed arena made c.as_mut_slice.result.now new c.as_slice.result.now c.as_slice-copies.result.now _ (lent ∙ sym listed) (sym put) c.in_ok-self-inside.ensures.graphs c.in_ok-self-inside.ensures.same c.known_copies-new_numbers.ensures.each in (
      c.self.invariant.0,
      c.carry_met.ensures arena made c.self.invariant.1 renamed,
      c.carry_built.ensures over arena made c.self.invariant.2 renamed,
      c.carry_weights.ensures over.settings.profile.prices arena made c.self.invariant.3 renamed,
    )

pub returns-clause-stand : goal.returns-clause-stand
returns-clause-stand c =
    let over = c.self.inside.ground in
    let made = c.in_ok-self-inside.field-0 in
    let graphs = c.in_ok-graphs.graphs in
    let first = c.as_mut_slice.result.now in
    let new = c.copy.new.live in
    let listed = c.as_mut_slice.ensures.value ∙ c.in_ok-graphs.ensures in
    let put = c.put_graphs.ensures ∙ c.as_slice-copies.ensures.value ∙ lent_back graphs.items c.as_mut_slice.result.now new graphs.len (let len = graphs.ok.0 in omega arith) c.as_mut_slice.ensures.value c.in_ok-self-inside.ensures.length in
    subst (λ (v : SpacesData). AllZip (Succeeds v (spaces_over over made)) c.args.live.now c.put_graphs.new.spaces) c.self.view_is
    (subst (λ (ns : List ℕ). AllZip (Succeeds (spaces_over over c.self.inside.arena) (spaces_over over made)) c.args.live.now ns) (sym put)
    (subst (λ (ks : List ℕ). AllZip (Succeeds (spaces_over over c.self.inside.arena) (spaces_over over made)) ks new) listed
    (copies_stand over c.self.inside.arena made first new c.in_ok-self-inside.ensures.graphs c.in_ok-self-inside.ensures.same)))

pub returns-clause-named : goal.returns-clause-named
returns-clause-named c =
    let made = c.in_ok-self-inside.field-0 in
    let graphs = c.in_ok-graphs.graphs in
    let new = c.copy.new.live in
    let put = c.put_graphs.ensures ∙ c.as_slice-copies.ensures.value ∙ lent_back graphs.items c.as_mut_slice.result.now new graphs.len (let len = graphs.ok.0 in omega arith) c.as_mut_slice.ensures.value c.in_ok-self-inside.ensures.length in
    λ n lt. subst (λ (ns : List ℕ). IsNamed made ns n) (sym put) (c.in_ok-self-inside.ensures.named n lt)
