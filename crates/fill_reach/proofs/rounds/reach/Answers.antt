use Rattle.std.proofs.Common.{◌≡◌, ◌+◌, ◌-◌, [], ℕ, map, Contains, subst, sym, ◌∙◌, arith}
use Rattle.std.proofs.lemmas.Bool.{eqb-true}
use Rattle.std.proofs.lemmas.List.{nil_from_length}
use Rattle.fill_text.specs.Lists.{Lists}
use Rattle.fill_reach.specs.Marks.{AreMarked, AreMarkedAs, AreTexts, IsNew}
use Rattle.fill_reach.specs.Reach.{FindsEach, IsReached, reached_cmp}
use Rattle.fill_reach.proofs.RoundLaws.{marked_spots, marks_after, marks_stay, marks_find, marks_end}
use Rattle.fill_reach.proofs.rounds.reach.Goals.{else-loop-depth-test, then-loop-depth-test+in_ok-texts+then-is_empty}
use Rattle.fill_reach.proofs.rounds.reach.Goals as goal

pub new_texts-requires-clause-spots : goal.new_texts-requires-clause-spots
new_texts-requires-clause-spots c = marked_spots c.args.settings.now c.args.sheet.now c.args.tables.now c.args.row c.loop-depth.depth c.loop-depth.rows c.loop-depth.invariant

pub mark-requires-clause-spots : goal.mark-requires-clause-spots
mark-requires-clause-spots c = marked_spots c.args.settings.now c.args.sheet.now c.args.tables.now c.args.row c.loop-depth.depth c.loop-depth.rows c.loop-depth.invariant

pub loop-depth-preserved : goal.loop-depth-preserved
loop-depth-preserved c =
    marks_after c.args.settings.now c.args.sheet.now c.args.tables.now c.args.row c.loop-depth.depth c.loop-depth.rows (map (λ text. text.now) c.in_ok-texts.texts.items) c.in_ok-all.ensures.shape
    c.loop-depth.invariant c.in_ok-texts.ensures c.mark.new.rows
    (subst (λ texts. AreMarkedAs c.args.tables.now (Contains (map (λ text. text.now) texts)) (c.loop-depth.depth + 1) c.loop-depth.rows c.mark.new.rows) c.deref.ensures.value c.mark.ensures)

-- the marks are right at the last depth, also where a round found no new text
last : (c : goal.After-drop-all-2) → AreMarked c.args.settings.now c.args.sheet.now c.args.tables.now c.args.row c.args.settings.now.depth c.loop-depth.rows
last c = elim c.loop-depth-test.branch [
  | else-loop-depth-test w ↦
      let done : c.loop-depth.depth ≡ c.args.settings.now.depth = (let past = w.loop-depth-test.false in omega arith) in
      subst (λ (d : ℕ). AreMarked c.args.settings.now c.args.sheet.now c.args.tables.now c.args.row d c.loop-depth.rows) done c.loop-depth.invariant
  | then-loop-depth-test+in_ok-texts+then-is_empty w ↦
      let none : w.in_ok-texts.texts.len ≡ 0 = eqb-true w.in_ok-texts.texts.len 0 (sym w.is_empty.ensures ∙ w.if-is_empty.true) in
      let nil : w.in_ok-texts.texts.items ≡ [] = nil_from_length w.in_ok-texts.texts.items (omega (arith, w.in_ok-texts.texts.ok.0, none)) in
      let texts : AreTexts (IsNew c.args.sheet.now c.args.tables.now c.args.row c.loop-depth.rows c.loop-depth.depth) [] =
      subst (λ texts. AreTexts (IsNew c.args.sheet.now c.args.tables.now c.args.row c.loop-depth.rows c.loop-depth.depth) (map (λ text. text.now) texts)) nil w.in_ok-texts.ensures
      in
      marks_stay c.args.settings.now c.args.sheet.now c.args.tables.now c.args.row (c.args.settings.now.depth - c.loop-depth.depth) c.loop-depth.depth c.args.settings.now.depth c.loop-depth.rows (omega arith)
      c.in_ok-all.ensures.shape c.loop-depth.invariant texts
]

pub returns : goal.returns
returns c = record {
  listed = subst (Lists reached_cmp (IsReached c.args.settings.now c.args.sheet.now c.args.tables.now c.args.row)) (sym c.in_ok-with_depth.ensures)
      (marks_end c.args.settings.now c.args.sheet.now c.args.tables.now c.args.row c.loop-depth.rows (last c));
  found = subst (FindsEach c.args.settings.now c.args.sheet.now c.args.tables.now c.args.row) (sym c.in_ok-with_depth.ensures)
      (marks_find c.args.settings.now c.args.sheet.now c.args.tables.now c.args.row c.loop-depth.rows (last c));
}
