use Rattle.std.proofs.Common.{inl, inr, refl}
use Rattle.std.proofs.KnownBytes.{Keeps-refl}
use Rattle.fill_command.proofs.replay.report.Goals as goal

pub returns-in-Err-clause-memory : goal.returns-in-Err-clause-memory
returns-in-Err-clause-memory g c = λ e. inl (Keeps-refl (g.O.Sink.written c.args.out.now), refl)

pub returns-clause-whole : goal.returns-clause-whole
returns-clause-whole g c = rw (c.in-Ok.ensures.ground, c.as_slice.ensures) at c.write_report.ensures.whole

pub returns-clause-part : goal.returns-clause-part
returns-clause-part g c = λ e. rw (c.in-Ok.ensures.ground, c.as_slice.ensures) at (c.write_report.ensures.part e)

pub returns-clause-memory : goal.returns-clause-memory
returns-clause-memory g c = λ e. inr (rw (c.in-Ok.ensures.ground, c.as_slice.ensures) at (c.write_report.ensures.memory e))
