use Rattle.std.proofs.Common.{◌≡◌, ◌∙◌, List, ap}
use Rattle.fill_text.specs.Data.{TableData}
use Rattle.fill_space.specs.declared.ground.Ground.{Ground}
use Rattle.fillcsv_run.specs.Read.{page_data, sheet_in}
use Rattle.fillcsv_run.proofs.desk.Desk.ask_over.Goals as goal

pub returns-clause-asked : goal.returns-clause-asked
returns-clause-asked g c = λ ready.
    let bytes = c.args.bytes.now in
    let desk = c.args.self.now in
    let over = c.in_ok-session.ensures.over (record {
      laid = record { settings = c.requires.settings; inputs = c.requires.inputs; output = c.requires.output; column = c.requires.column; states = c.requires.states };
      readable = ready.readable;
    }) in
    let same : c.into_tables.result ≡ desk.tables = c.into_tables.ensures ∙ ap (λ (x : Ground). x.tables) (c.in_ok-typed.ensures.ground ∙ over) ∙ c.replace-tables.ensures.value in
    let ground = over ∙ ap (λ (t : List TableData). record { settings = desk.settings; sheet = sheet_in desk.header desk.choice.from.items desk.output bytes; tables = t }) c.replace-tables.ensures.value in (
      record {
        laid = record { settings = c.requires.settings; inputs = c.requires.inputs; output = c.requires.output; column = c.requires.column; states = c.requires.states };
        readable = ready.readable;
      },
      ap (λ (t : List TableData). page_data bytes (record desk { tables = t; typed = c.in_ok-typed.typed })) same,
      rw (ground, c.as_slice.ensures) at c.in_ok-typed.ensures.answered,
    )
