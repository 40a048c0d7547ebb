use Rattle.std.proofs.Common.{◌≡◌, ◌≢◌, ◌∙◌, ap, subst, IfOk, IfErr, Ok, Err, Result, List, ℕ}
use Rattle.fill_records.specs.Records.{records_of}
use Rattle.fill_script.specs.declared.error.ScriptError.{ScriptError}
use Rattle.fill_script.specs.declared.error.ScriptError.TheVariants.{NoMemory}
use Rattle.fill_script.specs.declared.script.Script.{Script}
use Rattle.fill_script.specs.Script.{IsScript, read_script, script_of}
use Rattle.fill_script.proofs.Proper.{IfOk-map, script-proper}
use Rattle.fill_script.proofs.Runs.{script_of-take}
use Rattle.fill_script.proofs.script.Script.read.Goals as goal

pub returns-clause-ok : goal.returns-clause-ok
unfolding read_script
returns-clause-ok c =
    let whole = ap (λ (records : List (List (List ℕ))). script_of records) (c.as_slice.ensures ∙ c.in_ok-records.ensures) ∙ script_of-take (records_of c.args.bytes.now) in
    subst (λ (made : Result Script ScriptError). IfOk c.of_records.result (λ script. made ≡ Ok script)) whole c.of_records.ensures.ok

pub returns-clause-err : goal.returns-clause-err
unfolding read_script
returns-clause-err c =
    let whole = ap (λ (records : List (List (List ℕ))). script_of records) (c.as_slice.ensures ∙ c.in_ok-records.ensures) ∙ script_of-take (records_of c.args.bytes.now) in
    subst (λ (made : Result Script ScriptError). IfErr c.of_records.result (λ e. e ≢ NoMemory → made ≡ Err e)) whole c.of_records.ensures.err

pub returns-clause-proper : goal.returns-clause-proper
unfolding read_script
returns-clause-proper c =
    let whole = ap (λ (records : List (List (List ℕ))). script_of records) (c.as_slice.ensures ∙ c.in_ok-records.ensures) ∙ script_of-take (records_of c.args.bytes.now) in
    let made = subst (λ (made : Result Script ScriptError). IfOk c.of_records.result (λ script. made ≡ Ok script)) whole c.of_records.ensures.ok in
    IfOk-map c.of_records.result (λ script. read_script c.args.bytes.now ≡ Ok script) IsScript (script-proper c.args.bytes.now) made
