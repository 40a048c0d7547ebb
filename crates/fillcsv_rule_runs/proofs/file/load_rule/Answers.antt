use Rattle.std.proofs.Common.{[]}
use Rattle.fillcsv_rules.specs.Rule.{rule_data}
use Rattle.fillcsv_tables.specs.Tables.{lookups_open}
use Rattle.fillcsv_rule_runs.proofs.Loading.{stops_earlier}
use Rattle.fillcsv_rule_runs.proofs.file.load_rule.Goals as goal

pub returns-in-Err-open_tables-clause-err : goal.returns-in-Err-open_tables-clause-err
returns-in-Err-open_tables-clause-err g c =
    let files = g.C.Cabinet.files c.args.cabinet.now in
    let before = g.C.Cabinet.faults c.args.cabinet.now in
    let mid = g.C.Cabinet.faults c.open_rule.new.cabinet in
    let now = g.C.Cabinet.faults c.open_tables.new.cabinet in
    let rule = rule_data c.in-Ok.rule in
    let stopped = rw (c.in-Ok.ensures.files, c.deref.ensures.value) at c.in-Err-open_tables.ensures.stopped in
    (rule, c.in-Ok.ensures.ok, stops_earlier (λ held. lookups_open held [] rule.lookups) files before mid now c.in-Ok.ensures.later c.in-Err-open_tables.stop stopped)
