-- The nodes of an example's graph.
use Rattle.std.specs.Prelude.{ℕ, ◌<◌, ◌≤◌, List, length, drop}
use Rattle.fill_tree.specs.declared.user.TheConstants.{MOST_CHARACTERS}
use Rattle.fill_build.specs.Hits.{BeginAlike}
use Rattle.fill_build.specs.declared.node.Node.{Node}
use Rattle.fill_build.specs.declared.node.Twin.{Twin}

-- from both nodes on the text has the same characters for the run; the twin is the earlier node, where there are some
pub record IsTwin (out : List ℕ) (from : ℕ) (t : Twin) : Type 0 where
  pub earlier : 1 ≤ t.run → t.from < from
  pub alike : BeginAlike (drop t.from out) (drop from out) t.run

-- a node before the end of a text that an example may have, and a twin of it
pub record IsNode (n : Node) : Type 0 where
  pub within : n.from < length n.text.now
  pub short : length n.text.now ≤ MOST_CHARACTERS
  pub twin : IsTwin n.text.now n.from n.twin
