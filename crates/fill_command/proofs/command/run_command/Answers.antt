use Rattle.fill_command.proofs.command.run_command.Goals as goal

pub returns-in-Replay-clause-ends : goal.returns-in-Replay-clause-ends
returns-in-Replay-clause-ends g c = rw c.in-Replay.is c.replay.ensures.ends

pub returns-in-Made-clause-ends : goal.returns-in-Made-clause-ends
returns-in-Made-clause-ends g c = rw c.in-Made.is (c.made.ensures (g.C.Cabinet.files c.args.cabinet.now) (g.C.Cabinet.faults c.args.cabinet.now))

pub returns-in-Apply-clause-ends : goal.returns-in-Apply-clause-ends
returns-in-Apply-clause-ends g c = rw c.in-Apply.is (c.apply.ensures.ends c.args.steps.now)

pub returns-in-Keys-clause-ends : goal.returns-in-Keys-clause-ends
returns-in-Keys-clause-ends g c = rw c.in-Keys.is (c.keys.ensures.ends c.args.steps.now)
