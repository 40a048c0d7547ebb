use Rattle.fill_session.specs.Timeline.{timeline}
use Rattle.fill_report.proofs.Moved.{move_left}
use Rattle.fill_report.proofs.moves.write_move.Goals as goal

pub returns-clause-leaves : goal.returns-clause-leaves
returns-clause-leaves g c =
    let s = c.args.session.now in
    move_left s.spaces.ground c.args.way (timeline s) (timeline c.go-done.new.session) c.go-done.result c.is_none-refused.result c.move_record.result c.write_made.result _ _
    c.go-done.ensures.timeline c.is_none-refused.ensures c.move_record.ensures c.write_made.ensures.leaves
