-- The block that is made of a part.
use Rattle.std.proofs.Common.{◌≡◌, ◌∙◌, ℕ, List, All, Contains, length, ap, subst, sym, refl}
use Rattle.fill_text.specs.Data.{SheetData}
use Rattle.fill_sheet.specs.Columns.{rising}
use Rattle.fill_space.specs.declared.ground.Ground.{Ground}
use Rattle.fill_session.specs.Timeline.{Timeline}
use Rattle.fillcsv_blocks.specs.Merged.{PartData, merged, no_rows}
use Rattle.fillcsv_blocks.specs.Numbers.{Rise}
use Rattle.fillcsv_blocks.proofs.Merging.{as_long, first_there, made, numbers_rise, second_there}
use Rattle.fillcsv_blocks.proofs.Opening.{opened}
use Rattle.fillcsv_blocks.proofs.block.Block.open.Goals as goal
use Rattle.fillcsv_blocks.proofs.block.Block.open.Goals.{In_ok-session}

-- the part is the one of the rows
is_made : (c : In_ok-session) → record { sheet = c.sheet.inside.sheet; numbers = c.sheet.inside.numbers.items } ≡ made c.args.rows.now.output (rising c.args.rows.now.inputs.now) c.args.rows.now.first.now c.args.rows.now.second.now
is_made c = c.sheet.view_is ∙ c.in_ok-sheet.ensures

numbers_are : (c : In_ok-session) → c.sheet.inside.numbers.items ≡ (made c.args.rows.now.output (rising c.args.rows.now.inputs.now) c.args.rows.now.first.now c.args.rows.now.second.now).numbers
numbers_are c = ap (λ (p : PartData). p.numbers) (is_made c)

sheet_is : (c : In_ok-session) → c.in_ok-session.session.spaces.ground.sheet ≡ (made c.args.rows.now.output (rising c.args.rows.now.inputs.now) c.args.rows.now.first.now c.args.rows.now.second.now).sheet
sheet_is c = ap (λ (x : Ground). x.sheet) c.in_ok-session.ensures.ground ∙ ap (λ (p : PartData). p.sheet) (is_made c)

pub invariant_of-result : goal.invariant_of-result
invariant_of-result c =
    let long = as_long c.args.rows.now.output (no_rows (rising c.args.rows.now.inputs.now)) (merged c.args.rows.now.first.now c.args.rows.now.second.now) refl in (
      subst Rise (sym (numbers_are c)) (numbers_rise c.args.rows.now.output (rising c.args.rows.now.inputs.now) c.args.rows.now.first.now c.args.rows.now.second.now c.requires.first_rises c.requires.second_rises),
      ap (λ (l : List ℕ). length l) (numbers_are c) ∙ (long ∙ sym (ap (λ (s : SheetData). length s.rows) (sheet_is c))),
    )

pub returns-clause-stands : goal.returns-clause-stands
returns-clause-stands c = λ g settings tables same all others.
    opened c.args.rows.now.output (rising c.args.rows.now.inputs.now) c.args.rows.now.first.now c.args.rows.now.second.now c.requires.first_rises c.requires.second_rises
    (record { session = c.in_ok-session.session; numbers = c.sheet.inside.numbers.items }) (sheet_is c) (numbers_are c) (ap (λ (t : Timeline). t.examples) c.in_ok-session.ensures.timeline)
    g (settings ∙ sym (ap (λ (x : Ground). x.settings) c.in_ok-session.ensures.ground)) (tables ∙ sym (ap (λ (x : Ground). x.tables) c.in_ok-session.ensures.ground)) same all others

pub returns-clause-first : goal.returns-clause-first
returns-clause-first c =
    subst (λ (l : List ℕ). All (λ it. Contains l it.number) c.args.rows.now.first.now) (sym (numbers_are c))
    (first_there c.args.rows.now.output (rising c.args.rows.now.inputs.now) c.args.rows.now.first.now c.args.rows.now.second.now)

pub returns-clause-second : goal.returns-clause-second
returns-clause-second c =
    subst (λ (l : List ℕ). All (λ it. Contains l it.number) c.args.rows.now.second.now) (sym (numbers_are c))
    (second_there c.args.rows.now.output (rising c.args.rows.now.inputs.now) c.args.rows.now.first.now c.args.rows.now.second.now)
