use Rattle.std.proofs.Common.{◌∙◌, List, [], ◌++◌, All, Contains, append-nil, ap, refl, subst, sym}
use Rattle.fillcsv_rows.specs.declared.learning.Refused.{Refused}
use Rattle.fillcsv_blocks.specs.Merged.{numbers_of}
use Rattle.fillcsv_blocks.specs.declared.numbered.Numbered.{Numbered}
use Rattle.fillcsv_filling.specs.Long.{AreRows, ground_of, long_of, rows_of}
use Rattle.fillcsv_filling.specs.Reading.{numbered}
use Rattle.fillcsv_filling.specs.Rows.{GivesNone, IsRow}
use Rattle.fillcsv_filling.specs.Taught.{tables_of}
use Rattle.fillcsv_filling.proofs.Choosing.{of_more, of_same, of_those}
use Rattle.fillcsv_filling.proofs.Lessons.{learns_nothing}
use Rattle.fillcsv_filling.proofs.Sheets.{rows_rise, rows_there}
use Rattle.fillcsv_filling.proofs.Standing.{in_step, kept_after, learns_over, made_stands, rows_among, tables_are}
use Rattle.fillcsv_filling.proofs.learning.learn_rows.Goals as goal

pub returns-then-not-gives_any-clause-kept : goal.returns-then-not-gives_any-clause-kept
returns-then-not-gives_any-clause-kept g c =
    let kept = c.args.learned.now.kept.items in
    of_more kept kept c.args.rows.items (of_same kept)

pub returns-then-not-gives_any-clause-learns : goal.returns-then-not-gives_any-clause-learns
returns-then-not-gives_any-clause-learns g c = λ bytes long taught after.
    let s = long_of bytes c.args.sheet.now in
    let old = c.args.learned.now in
    let nothing : List Refused = [] in
    let rows = rows_among s old.kept.items c.args.rows.items after c.requires.rows.few in
    let there = subst (λ (l : List Numbered). All (IsRow s) l) (sym c.deref.ensures.value) (rows_there s c.args.rows.items rows.rows) in
    let none = subst (λ (l : List Numbered). All (GivesNone s) l) c.deref.ensures.value (c.gives_any.ensures bytes long there c.if-not-gives_any.true) in
    record {
      stands = taught.stands;
      kept = taught.kept;
      tables = refl;
      learns = (nothing, learns_nothing s.typed (ground_of s (tables_of c.args.basis)) old.examples c.args.rows.items none, sym (append-nil old.refused));
    }

pub learn_each-requires-clause-here : goal.learn_each-requires-clause-here
learn_each-requires-clause-here g c =
    subst (λ (l : List Numbered). All (λ (it : Numbered). Contains c.in_ok-block.block.numbers it.number) l) c.deref-2.ensures.value c.in_ok-block.ensures.here

pub returns-clause-learns : goal.returns-clause-learns
returns-clause-learns g c = λ bytes long taught after.
    let s = long_of bytes c.args.sheet.now in
    let old = c.args.learned.now in
    let kept = c.learn_each.new.learned.kept.items in
    let made = c.in_ok-learned.field-0 in
    let rows = rows_among s old.kept.items c.args.rows.items after c.requires.rows.few in
    let stands = c.in_ok-block.ensures.stands bytes long taught (subst (λ (l : List Numbered). AreRows s l) (sym c.deref-2.ensures.value) rows) in
    let tables = tables_of c.args.basis in
    let block = c.in_ok-block.block in
    let new = c.learn_each.new.block in
    let step = in_step s tables block old.examples stands old.kept.items taught.kept in
    let each = c.in_ok-learn_each.ensures.learns bytes step (rows_rise s (old.kept.items ++ c.args.rows.items) after) in
    let of_all = of_those kept (old.kept.items ++ c.args.rows.items) (numbered 1 (rows_of s)) c.in_ok-learn_each.ensures.kept after in
    record {
      stands = made_stands s kept new made each.step c.in_ok-learned.ensures.made;
      kept = kept_after s kept new made each.step c.in_ok-learned.ensures.made of_all;
      tables = each.tables ∙ tables_are s tables block old.examples stands;
      learns = (each.learns.0, learns_over s tables block old.examples stands (numbers_of c.args.rows.items) new made each.learns.0 c.in_ok-learned.ensures.made each.learns.1, each.learns.2);
    }
