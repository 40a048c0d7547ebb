use Rattle.std.proofs.Common.{◌≡◌, ◌≤◌, []}
use Rattle.std.specs.Io.KnownBytes.{prepend_known}
use Rattle.fillcsv_dialogue.specs.Told.{Grew}
use Rattle.fillcsv_dialogue.specs.Turns.{GoesOn}
use Rattle.fillcsv_dialogue.proofs.dialogue.ask.Given as goal

-- the lines so far led to these replies
abbrev pub invariant-loop : goal.invariant-loop
invariant-loop g l = record {
  empty : l.session.examples ≡ [];
  ground : l.session.spaces.ground ≡ l.initial.session.spaces.ground;
  went : GoesOn l.initial.session.spaces.ground l.topic.words.now [] l.dialogue.kept.items (g.S.Source.left l.initial.input) (prepend_known l.dialogue.lines.held (g.S.Source.left l.input));
  later : g.S.Source.faults l.initial.input ≤ g.S.Source.faults l.input;
  grew : Grew (g.E.Sink.written l.initial.err) (g.E.Sink.written l.err) (g.E.Sink.faults l.initial.err) (g.E.Sink.faults l.err);
}
