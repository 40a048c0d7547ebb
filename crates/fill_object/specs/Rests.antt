-- The least rests of programs, from a node of a graph on, that answer what is wanted.
use Rattle.std.specs.Prelude.{◌≡◌, ◌⊎◌, ℕ, ◌<◌, ◌≤◌, List, Option, None, Some, slice_get}
use Rattle.fill_tree.specs.Meaning.{program_tree}
use Rattle.fill_tree.specs.Tree.{AtomTree, Atoms, end, more}
use Rattle.fill_tree.specs.Value.{IsValue, ProgramIs}
use Rattle.fill_tree.specs.declared.tree.Program.{Program}
use Rattle.fill_arena.specs.Contents.{In, EachIn, IsAtomSet}
use Rattle.fill_arena.specs.Stands.{AtomStands, Walks}
use Rattle.fill_arena.specs.declared.entry.Edge.{Edge}
use Rattle.fill_object.specs.Chains.{IsFound, IsLeastWithin}
use Rattle.fill_object.specs.Guide.{IsGuide}
use Rattle.fill_object.specs.Memo.{IsMemoOf, IsOnRow}
use Rattle.fill_object.specs.Wants.{RestAgrees}
use Rattle.fill_object.specs.declared.chain.Least.{Least}
use Rattle.fill_object.specs.declared.graph.Objection.{Objection}
use Rattle.fill_object.specs.declared.rests.Rest.{Rest}
use Rattle.fill_object.specs.declared.rests.Rests.{Rests}
use Rattle.fill_object.specs.declared.row.OnRow.{OnRow}
use Rattle.fill_object.specs.declared.search.Findings.{Findings}
use Rattle.fill_object.specs.declared.search.Search.{Search}
use Rattle.fill_object.specs.declared.wanted.Wanted.{Wanted}

-- edges lead on, within the nodes, and have sets of atoms; the guide is of the graph
pub record IsSearch (s : Search) : Type 0 where
  pub row : IsOnRow s.on
  pub sets : EachIn (λ e. IsAtomSet s.on.arena.now e.atoms) s.edges.now
  pub onward : EachIn (λ e. (e.from < e.to) × (e.to ≤ s.last)) s.edges.now
  pub guide : IsGuide s.on.prices.now s.on.arena.now s.edges.now s.last s.guide.now

-- a rest of a program from the node on
abbrev pub RestStands : Search → ℕ → Atoms → Type 0
RestStands s n p = Walks p s.on.arena.now s.edges.now s.last n

-- the rest without atoms
abbrev pub IsEnd : Search → ℕ → Atoms → Type 0
IsEnd s n end = n ≡ s.last
IsEnd s n (more a q) = ⊥

-- a first atom of one property, and then a rest of another
abbrev pub IsThen : (AtomTree → Type 0) → (Atoms → Type 0) → Atoms → Type 0
IsThen H T end = ⊥
IsThen H T (more a q) = H a × T q

-- a rest whose first atom is one of the edge, which is one from the node
abbrev pub IsAlong : Search → ℕ → Edge → Atoms → Type 0
IsAlong s n e p = (e.from ≡ n) × IsThen (AtomStands s.on.arena.now e.atoms) (RestStands s e.to) p

-- what was found is so
abbrev pub IsRest : Search → Rest → Type 0
IsRest s r = IsLeastWithin s.on.prices.now r.limit (RestStands s r.node) (RestAgrees s.on s.answer.now r.wanted) r.least

pub record AreRests (s : Search) (rests : Rests) : Type 0 where
  pub each : EachIn (IsRest s) rests.entries.items

pub record AreFound (s : Search) (findings : Findings) : Type 0 where
  pub memo : IsMemoOf s.on findings.memo
  pub rests : AreRests s findings.rests

-- it was found for the node and what is wanted, within no less than the limit or whatever it costs
abbrev pub IsKnown : List Rest → ℕ → Wanted → ℕ → Least → Type 0
IsKnown rests n w limit o = (r : Rest) × In r rests × (r.node ≡ n) × (r.wanted ≡ w) × (r.least ≡ o) × ((limit ≤ r.limit) ⊎ IsFound o)

-- what was found for the node and what is wanted stands at the place
abbrev pub IsRestAt : List Rest → ℕ → Wanted → ℕ → Type 0
IsRestAt rests n w i = (r : Rest) × (slice_get rests i ≡ Some r) × (r.node ≡ n) × (r.wanted ≡ w)

-- it has the chain's atoms, and its own value on the row
abbrev pub IsProgramOf : OnRow → Program → Option Objection → Type 0
IsProgramOf on x None = ⊥
IsProgramOf on x (Some o) = (program_tree o.program ≡ program_tree x) × IsValue (ProgramIs on.sheet.now on.tables.now on.row (program_tree o.program)) o.text
