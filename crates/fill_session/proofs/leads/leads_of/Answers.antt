use Rattle.std.proofs.Common.{◌≡◌, ◌∷◌, [], ℕ, suc, ◌+◌, List, length, rules, sym, ap, subst, ◌∙◌, length-append, arith}
use Rattle.fill_tree.specs.declared.user.Example.{Example}
use Rattle.fill_space.specs.Spaces.{SpacesData, SpaceStands}
use Rattle.fill_session.specs.State.{IsBranch}
use Rattle.fill_session.specs.Suggested.{LeadStands}
use Rattle.fill_session.specs.declared.leads.Lead.{Lead}
use Rattle.fill_session.proofs.Held.{few_shown}
use Rattle.fill_session.proofs.Searching.{each_pushed, shown_many, some_branch}
use Rattle.fill_session.proofs.leads.leads_of.Goals as goal

pub overflow_cast-count : goal.overflow_cast-count
overflow_cast-count c =
    let s = c.args.session.now in
    let few = few_shown s.spaces.ground s.examples c.branches.result.now c.branches.ensures.shown in
    search rules

pub lead_of-requires : goal.lead_of-requires
lead_of-requires c =
    let s = c.args.session.now in
    let some = some_branch s.spaces.ground s.examples c.branches.result.now c.branches.ensures.shown c.loop-k.k c.loop-k-test.true in
    let number : suc c.loop-k.k ≡ c.loop-k.k + 1 = omega arith in (
      some.0,
      subst (λ (v : SpacesData). SpaceStands v c.space-space.result some.0) (sym c.spaces.ensures)
          (c.space-space.ensures some.0 (subst (λ n. IsBranch s.spaces.ground s.examples n some.0) number some.1)),
    )

pub loop-k-preserved : goal.loop-k-preserved
loop-k-preserved c =
    let s = c.args.session.now in
    let xs = c.loop-k.leads.items in
    let ys = c.push.new.self.items in
    let y : Lead = c.in_ok-lead.lead in
    let number : c.loop-k.k + 1 ≡ suc c.loop-k.k = omega arith in
    record {
      many = (let size : length ys ≡ length xs + 1 = ap length c.in_ok-push.ensures.items ∙ length-append xs (y ∷ []) in let long = c.loop-k.invariant.many in omega arith);
      spaces = each_pushed (λ i (lead : Lead). (list : List Example) → IsBranch s.spaces.ground s.examples (suc i) list → SpaceStands s.spaces lead.space list) xs ys y c.loop-k.k c.in_ok-push.ensures.items c.loop-k.invariant.many c.loop-k.invariant.spaces
          (λ list is. subst (λ (n : ℕ). SpaceStands s.spaces n list) (sym c.in_ok-lead.ensures.space) (c.space-space.ensures list (subst (λ n. IsBranch s.spaces.ground s.examples n list) (sym number) is)));
      each = each_pushed (λ i (lead : Lead). LeadStands s.spaces lead) xs ys y c.loop-k.k c.in_ok-push.ensures.items c.loop-k.invariant.many c.loop-k.invariant.each (subst (λ (v : SpacesData). LeadStands v y) c.spaces.ensures c.in_ok-lead.ensures.stands);
    }

pub returns : goal.returns
returns c =
    let s = c.args.session.now in
    let past = c.loop-k-test.false in
    let most = c.loop-k.auto.k-end in
    let size : length c.loop-k.leads.items ≡ length c.branches.result.now = (let long = c.loop-k.invariant.many in omega arith) in
    record {
      many = shown_many s.spaces.ground s.examples c.branches.result.now c.branches.ensures.shown (length c.loop-k.leads.items) size;
      spaces = c.loop-k.invariant.spaces;
      each = c.loop-k.invariant.each;
    }
