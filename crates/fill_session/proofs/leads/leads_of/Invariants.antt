use Rattle.std.proofs.Common.{◌≡◌, ℕ, suc, List, Some, length, slice_get}
use Rattle.fill_tree.specs.declared.user.Example.{Example}
use Rattle.fill_space.specs.Spaces.{SpaceStands}
use Rattle.fill_session.specs.State.{IsBranch}
use Rattle.fill_session.specs.Suggested.{LeadStands}
use Rattle.fill_session.specs.declared.leads.Lead.{Lead}
use Rattle.fill_session.proofs.leads.leads_of.Given as goal

-- leads so far
abbrev pub invariant-loop-k : goal.invariant-loop-k
invariant-loop-k l = record {
  many : length l.leads.items ≡ l.k;
  spaces : (i : ℕ) (lead : Lead) → slice_get l.leads.items i ≡ Some lead → (list : List Example) → IsBranch l.session.spaces.ground l.session.examples (suc i) list → SpaceStands l.session.spaces lead.space list;
  each : (i : ℕ) (lead : Lead) → slice_get l.leads.items i ≡ Some lead → LeadStands l.session.spaces lead;
}
