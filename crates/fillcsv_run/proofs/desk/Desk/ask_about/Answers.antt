use Rattle.std.proofs.Common.{◌≡◌, ◌∙◌, ℕ, List, Bool, None, Some, subst, sym}
use Rattle.std.specs.Prelude.{string_bytes}
use Rattle.fill_edge.specs.Outside.{Files, IsFile}
use Rattle.fill_passes.specs.Files.{IsTold}
use Rattle.fillcsv_run.specs.Asking.{AreTyped, heard}
use Rattle.fillcsv_run.specs.Read.{page_data}
use Rattle.fillcsv_run.proofs.desk.Desk.ask_about.Goals as goal

-- what was read is what is told
same_bytes : (files : Files) (name read bytes : List ℕ) → IsFile files name read → IsTold files name bytes → read ≡ bytes
same_bytes None name read bytes is told = cc
same_bytes (Some held) name read bytes is told = let same : Some read ≡ Some bytes = sym is ∙ told in cc

pub returns-in-Ok-ask_over-clause-asked : goal.returns-in-Ok-ask_over-clause-asked
returns-in-Ok-ask_over-clause-asked g c = λ bytes told ready.
    let desk = c.args.self.now in
    let whole = rw c.as_str.ensures.value at c.in-Ok.ensures.whole in
    let same : c.as_slice.result.now ≡ bytes = c.as_slice.ensures ∙ same_bytes (g.C.Cabinet.files c.args.cabinet.now) (string_bytes desk.file) c.in-Ok.bytes bytes whole told in
    let here = rw same at (c.in-Ok-ask_over.ensures.asked (rw same ready)) in (
      here.0,
      here.1,
      subst (λ (b : Bool). AreTyped b (page_data bytes desk).over desk.typed (heard (g.S.Source.left c.args.input.now) (g.S.Source.faults c.args.input.now) (g.S.Source.faults c.ask_over.new.input)) c.ask_over.new.self.typed)
          (sym c.if-not-self.false) here.2,
    )
