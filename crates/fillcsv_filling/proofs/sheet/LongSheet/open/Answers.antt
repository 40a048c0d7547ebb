use Rattle.std.proofs.Common.{◌≡◌, All, Contains, List, [], ℕ, ap, arith, length, refl, subst, sym}
use Rattle.fill_sheet.specs.Columns.{rising}
use Rattle.fill_tree.specs.declared.user.Example.{Example}
use Rattle.fillcsv_blocks.specs.Accepted.{Accepts}
use Rattle.fillcsv_blocks.specs.Merged.{IsReadable, IsRowOf, RowsRise}
use Rattle.fillcsv_blocks.specs.declared.numbered.Numbered.{Numbered}
use Rattle.fillcsv_filling.specs.Long.{ground_of, long_of}
use Rattle.fillcsv_filling.proofs.Counting.{most_rows_is}
use Rattle.fillcsv_filling.proofs.Sheets.{rows_in_ground}
use Rattle.fillcsv_filling.proofs.sheet.LongSheet.open.Goals as goal

pub open-requires-clause-few : goal.open-requires-clause-few
open-requires-clause-few g c =
    let size : length c.deref.result.now ≡ length c.args.learned.now.kept.items = ap length c.deref.ensures.value in
    omega (arith, most_rows_is, size, c.requires.kept.few, c.requires.rows.few)

pub open-requires-clause-first : goal.open-requires-clause-first
open-requires-clause-first g c =
    let s = c.args.self.now in
    subst (λ (l : List Numbered). All (IsReadable (rising s.inputs.now) s.output) l) (sym c.deref.ensures.value) c.requires.kept.text

pub open-requires-clause-second : goal.open-requires-clause-second
open-requires-clause-second g c = c.requires.rows.text

pub open-requires-clause-first_rises : goal.open-requires-clause-first_rises
open-requires-clause-first_rises g c = subst (λ (l : List Numbered). RowsRise l) (sym c.deref.ensures.value) c.requires.kept.rise

pub open-requires-clause-second_rises : goal.open-requires-clause-second_rises
open-requires-clause-second_rises g c = c.requires.rows.rise

pub returns-clause-stands : goal.returns-clause-stands
returns-clause-stands g c = λ bytes long taught rows.
    let s = long_of bytes c.args.self.now in
    let over = ground_of s c.args.tables in
    let first = rows_in_ground s c.args.learned.now.kept.items taught.kept.rows.rows c.args.tables in
    let second = rows_in_ground s c.args.rows.now rows.rows c.args.tables in
    let here = subst (λ (l : List Numbered). All (IsRowOf over.sheet s.output) l) (sym c.deref.ensures.value) first in
    c.in_ok-learn_again.ensures.learned over [] c.args.learned.now.examples (c.in_ok-block.ensures.stands over refl refl refl here second)
    (subst (λ (l : List Example). Accepts over [] l c.args.learned.now.examples) (sym c.as_slice.ensures) taught.accepted)

pub returns-clause-here : goal.returns-clause-here
returns-clause-here g c =
    subst (λ (l : List ℕ). All (λ (it : Numbered). Contains l it.number) c.args.rows.now) (sym c.learn_again.ensures.numbers) c.in_ok-block.ensures.second
