-- Examples that are accepted one after the other.
use Rattle.std.specs.Prelude.{◌≡◌, List, [], ◌∷◌, None}
use Rattle.fill_tree.specs.declared.user.Edit.TheVariants.{Add}
use Rattle.fill_tree.specs.declared.user.Example.{Example}
use Rattle.fill_space.specs.declared.ground.Ground.{Ground}
use Rattle.fill_session.specs.Edits.{changed}
use Rattle.fill_session.specs.Outcome.{OutcomeIs}

-- these more are added to the examples that are there, one after the other, each is accepted, and they lead to those
abbrev pub Accepts : Ground → List Example → List Example → List Example → Type 0
Accepts g there [] after = after ≡ there
Accepts g there (e ∷ more) after = OutcomeIs g there (Add e.row e.text) None × Accepts g (changed there (Add e.row e.text)) more after

-- each of the examples was accepted after those before it
abbrev pub AreAccepted : Ground → List Example → Type 0
AreAccepted g examples = Accepts g [] examples examples
