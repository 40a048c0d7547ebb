use Rattle.std.specs.Prelude.{map, string_bytes}
use Rattle.fill_engine.specs.Answer.{answer_data}
use Rattle.fill_engine.specs.Programs.{files_of}
use Rattle.fill_engine.proofs.Results.{if_ok_map}
use Rattle.fill_engine.proofs.Runs.{ends_over, flashfill_ends}
use Rattle.fill_engine.proofs.programs.run_flashfill.Goals as goal

pub returns : goal.returns
returns g c = if_ok_map c.whole.result (λ a w.
    flashfill_ends (map string_bytes c.args.words.now) (files_of c.args.files.files) (answer_data a) _ _ _ _ _ _ _ _ _ c.new-steps.result c.run-status.new.steps
    w.status_is w.out_is w.err_is c.new-out.ensures.bytes c.new-err.ensures.bytes c.new-out.ensures.faults w.out_faults c.new-err.ensures.faults w.err_faults
    (record {
      ends = ends_over (map string_bytes c.args.words.now) (files_of c.args.files.files) _ c.run-status.result c.new-out.result.bytes.items c.run-status.new.out.bytes.items
          c.new-out.result.faults c.run-status.new.out.faults c.new-err.result.bytes.items c.run-status.new.err.bytes.items c.new-err.result.faults c.run-status.new.err.faults
          c.new-steps.result c.run-status.new.steps c.run-status.ensures.files c.run-status.ensures.ends;
      gives = c.run-status.ensures.gives;
      generated = λ n is. (c.run-status.ensures.generated n is).0;
    }))
    c.whole.ensures
