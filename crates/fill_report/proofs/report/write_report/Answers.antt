use Rattle.std.proofs.Common.{Err, refl, ap, ◌∙◌}
use Rattle.fill_space.specs.Spaces.{SpacesData}
use Rattle.fill_session.specs.Timeline.{timeline}
use Rattle.fill_report.specs.Report.{BeginsReport, IsReport}
use Rattle.fill_report.proofs.Reported.{flag_else, flag_then, leaves_part, leaves_records, report_entries, report_opening, report_whole}
use Rattle.fill_report.proofs.report.write_report.Goals as goal

pub returns-in-Err-clause-part : goal.returns-in-Err-clause-part
returns-in-Err-clause-part g c = λ h.
    let s = c.args.session.now in
    let entries = c.args.entries.now in
    leaves_part (IsReport s.spaces.ground entries) (BeginsReport s.spaces.ground entries) (Err c.in-Err.halt) _ _ _ _
    (report_opening s.spaces.ground (timeline s) entries (g.O.Sink.written c.args.out.now) c.args.steps.now c.requires.empty (timeline c.write_additions.new.session) c.in-Err.halt
    (g.O.Sink.written c.write_additions.new.out) c.write_additions.new.steps c.in-Err.ensures.leaves) h

pub returns-in-Err-clause-memory : goal.returns-in-Err-clause-memory
returns-in-Err-clause-memory g c = λ h.
    let s = c.args.session.now in
    let entries = c.args.entries.now in
    leaves_records (IsReport s.spaces.ground entries) (BeginsReport s.spaces.ground entries) (Err c.in-Err.halt) _ _ _ _
    (report_opening s.spaces.ground (timeline s) entries (g.O.Sink.written c.args.out.now) c.args.steps.now c.requires.empty (timeline c.write_additions.new.session) c.in-Err.halt
    (g.O.Sink.written c.write_additions.new.out) c.write_additions.new.steps c.in-Err.ensures.leaves) h

pub returns-then-opening-clause-whole : goal.returns-then-opening-clause-whole
returns-then-opening-clause-whole g c =
    let s = c.args.session.now in
    report_whole s.spaces.ground (timeline s) c.args.entries.now (g.O.Sink.written c.args.out.now) c.args.steps.now c.requires.empty
    c.forget.new.self.spaces.ground (timeline c.write_additions.new.session) (timeline c.forget.new.self) (timeline c.write_entries.new.session) c.in-Ok.refused
    (g.O.Sink.written c.write_additions.new.out) (g.O.Sink.written c.write_entries.new.out) c.write_additions.new.steps c.write_entries.new.steps
    (ap (λ (x : SpacesData). x.ground) c.forget.ensures.spaces ∙ c.in-Ok.ensures.ground) c.forget.ensures.timeline
    c.in-Ok.ensures.leaves c.in-Ok-write_entries.refused c.in-Ok.refused (flag_then c.in-Ok.refused c.in-Ok-write_entries.refused c.in-Ok.refused c.if-opening.true c.if-opening.true)
    c.in-Ok-write_entries.ensures.leaves

pub returns-else-opening-clause-whole : goal.returns-else-opening-clause-whole
returns-else-opening-clause-whole g c =
    let s = c.args.session.now in
    let flag = c.in-Ok-write_entries.refused in
    report_whole s.spaces.ground (timeline s) c.args.entries.now (g.O.Sink.written c.args.out.now) c.args.steps.now c.requires.empty
    c.forget.new.self.spaces.ground (timeline c.write_additions.new.session) (timeline c.forget.new.self) (timeline c.write_entries.new.session) c.in-Ok.refused
    (g.O.Sink.written c.write_additions.new.out) (g.O.Sink.written c.write_entries.new.out) c.write_additions.new.steps c.write_entries.new.steps
    (ap (λ (x : SpacesData). x.ground) c.forget.ensures.spaces ∙ c.in-Ok.ensures.ground) c.forget.ensures.timeline
    c.in-Ok.ensures.leaves flag flag (flag_else c.in-Ok.refused flag flag c.if-opening.false refl)
    c.in-Ok-write_entries.ensures.leaves

pub returns-in-Err-write_entries-clause-part : goal.returns-in-Err-write_entries-clause-part
returns-in-Err-write_entries-clause-part g c = λ h.
    let s = c.args.session.now in
    let entries = c.args.entries.now in
    leaves_part (IsReport s.spaces.ground entries) (BeginsReport s.spaces.ground entries) (Err c.in-Err-write_entries.halt) _ _ _ _
    (report_entries s.spaces.ground (timeline s) entries (g.O.Sink.written c.args.out.now) c.args.steps.now c.requires.empty
    c.forget.new.self.spaces.ground (timeline c.write_additions.new.session) (timeline c.forget.new.self) (timeline c.write_entries.new.session) c.in-Ok.refused
    (g.O.Sink.written c.write_additions.new.out) (g.O.Sink.written c.write_entries.new.out) c.write_additions.new.steps c.write_entries.new.steps
    (ap (λ (x : SpacesData). x.ground) c.forget.ensures.spaces ∙ c.in-Ok.ensures.ground) c.forget.ensures.timeline
    c.in-Ok.ensures.leaves c.in-Err-write_entries.halt c.in-Err-write_entries.ensures.leaves) h

pub returns-in-Err-write_entries-clause-memory : goal.returns-in-Err-write_entries-clause-memory
returns-in-Err-write_entries-clause-memory g c = λ h.
    let s = c.args.session.now in
    let entries = c.args.entries.now in
    leaves_records (IsReport s.spaces.ground entries) (BeginsReport s.spaces.ground entries) (Err c.in-Err-write_entries.halt) _ _ _ _
    (report_entries s.spaces.ground (timeline s) entries (g.O.Sink.written c.args.out.now) c.args.steps.now c.requires.empty
    c.forget.new.self.spaces.ground (timeline c.write_additions.new.session) (timeline c.forget.new.self) (timeline c.write_entries.new.session) c.in-Ok.refused
    (g.O.Sink.written c.write_additions.new.out) (g.O.Sink.written c.write_entries.new.out) c.write_additions.new.steps c.write_entries.new.steps
    (ap (λ (x : SpacesData). x.ground) c.forget.ensures.spaces ∙ c.in-Ok.ensures.ground) c.forget.ensures.timeline
    c.in-Ok.ensures.leaves c.in-Err-write_entries.halt c.in-Err-write_entries.ensures.leaves) h
