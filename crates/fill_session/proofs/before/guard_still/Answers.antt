use Rattle.std.proofs.Common.{◌≡◌, Some, refl, subst}
use Rattle.std.specs.Prelude.{All, Contains, IfSome}
use Rattle.fill_text.specs.Data.{SheetData}
use Rattle.fill_tree.specs.Guard.{GuardHolds}
use Rattle.fill_tree.specs.Separate.{IsLeastGuard}
use Rattle.fill_session.specs.Before.{shown_rows}
use Rattle.fill_session.proofs.Lasting.{least_more, rows_among}
use Rattle.fill_session.proofs.before.guard_still.Goals as goal

pub returns : goal.returns
returns c =
    let g = c.args.spaces.now.ground in
    let x = c.args.branch.now in
    let inside = c.args.inside.now in
    let outside = c.args.outside.now in
    let h = c.in-Some.guard in
    let is : x.guard ≡ Some h = c.in-Some.is in
    least_more g.settings g.sheet x.rows (shown_rows c.args.later.now) inside outside h
    (subst (λ o. IfSome o (IsLeastGuard g.settings g.sheet x.rows (shown_rows c.args.later.now))) is c.requires.told)
    (subst (λ v. All (Contains inside) v) c.as_slice.ensures (c.if-not-are_among.ensures refl)) (rows_among outside c.args.later.now (c.if-not-all_among.ensures refl))
    (subst (λ (sheet : SheetData). All (λ row. GuardHolds sheet row h) inside) c.sheet-sheet.ensures (c.if-not-holds_on_all.ensures refl))
    (subst (λ (sheet : SheetData). All (λ row. ¬ (GuardHolds sheet row h)) outside) c.sheet-sheet.ensures (c.if-not-holds_on_none.ensures refl))
