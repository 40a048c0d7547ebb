use Rattle.std.proofs.Common.{◌≡◌, ◌∙◌, ap, inl, inr, subst, sym}
use Rattle.std.specs.Prelude.{IfOk, Some, map, string_bytes}
use Rattle.fill_edge.specs.Memory.{Shelf}
use Rattle.fill_files.specs.Saves.{Kept}
use Rattle.fillcsv_run.specs.Saved.{StoreAt}
use Rattle.fill_engine.specs.Answer.{answer_data}
use Rattle.fill_engine.specs.Input.{input_in}
use Rattle.fill_engine.specs.Programs.{EndsFillcsv, Stores}
use Rattle.fill_engine.proofs.Results.{if_ok_map}
use Rattle.fill_engine.proofs.Runs.{fillcsv_ends}
use Rattle.fill_engine.proofs.programs.run_fillcsv.Goals as goal

abbrev store_at : Kept → StoreAt
store_at k = record { files = Some k.files; faults = k.faults }

pub returns : goal.returns
returns c =
    let same : c.folder_of-folder.result.cabinet ≡ c.args.files = c.folder_of-folder.ensures.cabinet in
    let first : c.new-input.result.rest ≡ input_in c.folder_of-folder.result.cabinet.files =
    c.new-input.ensures ∙ (c.deref.ensures.value ∙ (c.in_ok-bytes.ensures ∙ ap (λ (s : Shelf). input_in s.files) (sym same))) in
    subst (λ (s : Shelf). IfOk c.whole.result (λ answer. EndsFillcsv (map string_bytes c.args.words.now) s.files (answer_data answer))) same
    (if_ok_map c.whole.result (λ a w.
    fillcsv_ends (map string_bytes c.args.words.now) c.folder_of-folder.result.cabinet.files (answer_data a) _ _ _ _ _ _ _ _ _ _ _ _
    w.status_is w.out_is w.err_is c.new-out.ensures.bytes c.new-err.ensures.bytes c.new-out.ensures.faults w.out_faults c.new-err.ensures.faults w.err_faults
    first (ap store_at c.folder_of-folder.ensures.store) (subst (λ s. Stores s (store_at c.run-ran.result.folder.store)) (sym w.saved_is) c.in_ok-saved.ensures)
    (record {
      filled = λ asked is. (c.run-ran.ensures.filled asked is).1;
      ran = λ saved is. elim (c.run-ran.ensures.ran saved is) [ inl out ↦ inl out | inr r ↦ inr (_, r.1) ];
      wrong = λ is. ((c.run-ran.ensures.wrong is).0, ap (λ page. page.bytes.items) (c.run-ran.ensures.wrong is).2);
      shown = λ is. (c.run-ran.ensures.shown is).0;
      silent = λ asked is quiet done. ap (λ page. page.bytes.items) (c.run-ran.ensures.silent asked is quiet done);
      fault = c.run-ran.ensures.fault;
      statuses = c.run-ran.ensures.statuses;
    }))
    c.whole.ensures)
