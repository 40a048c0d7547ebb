use Rattle.std.proofs.Common.{◌≡◌, ℕ, ◌+◌, ◌≤◌, length, take}
use Rattle.fill_session.specs.Made.{AreMade}
use Rattle.fill_session.specs.Timeline.{timeline}
use Rattle.fill_session.proofs.session.Session.move_all.Given as goal

abbrev pub invariant-loop-i : goal.invariant-loop-i
invariant-loop-i g l = record {
  ground : l.self.spaces.ground ≡ l.fn.self.spaces.ground;
  long : length l.replies ≡ length l.moves;
  all : (n : ℕ) × AreMade l.fn.self.spaces.ground (timeline l.fn.self) (take l.i l.moves) (take l.i l.replies) n (timeline l.self) × (l.steps ≤ l.fn.steps + n);
}
