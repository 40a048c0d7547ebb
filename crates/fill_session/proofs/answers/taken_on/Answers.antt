use Rattle.std.proofs.Common.{◌≡◌, ◌+◌, ◌<◌, ◌≤◌, List, get_or, length, refl, sym, ap, subst, ◌∙◌, arith, rules}
use Rattle.fill_text.specs.Data.{SheetData, TableData}
use Rattle.fill_tree.specs.Meaning.{program_tree}
use Rattle.fill_tree.specs.Value.{IsValue, ProgramIs}
use Rattle.fill_space.specs.Spaces.{SpacesData}
use Rattle.fill_session.specs.Taken.{IsFirstTaker, NoneTakes, ReadInputs}
use Rattle.fill_session.specs.declared.branch.Branch.{Branch}
use Rattle.fill_session.proofs.Answering.{none_shown, reads_all}
use Rattle.fill_session.proofs.Held.{few_shown}
use Rattle.fill_session.proofs.Picked.{below, read}
use Rattle.fill_session.proofs.Taking.{is_taken}
use Rattle.fill_session.proofs.answers.taken_on.Goals as goal

pub first_taker-requires-clause-inputs : goal.first_taker-requires-clause-inputs
first_taker-requires-clause-inputs c =
    let s = c.args.session.now in
    let shown = c.branches-shown.result.now in
    let own : c.sheet.result.now ≡ s.spaces.ground.sheet = c.sheet.ensures ∙ ap (λ (v : SpacesData). v.ground.sheet) c.spaces-spaces.ensures in
    subst (λ sheet. ReadInputs sheet shown) (sym own) (reads_all s.spaces.ground s.examples shown c.branches-shown.ensures.shown)

pub returns-in_default-clause-none : goal.returns-in_default-clause-none
returns-in_default-clause-none c =
    let s = c.args.session.now in
    let shown = c.branches-shown.result.now in
    let own : c.sheet.result.now ≡ s.spaces.ground.sheet = c.sheet.ensures ∙ ap (λ (v : SpacesData). v.ground.sheet) c.spaces-spaces.ensures in
    λ none. none_shown s.spaces.ground s.examples shown c.args.row c.branches-shown.ensures.shown (subst (λ sheet. NoneTakes sheet c.args.row shown) own c.in_default.ensures)

pub offset_bounds-shown-k : goal.offset_bounds-shown-k
offset_bounds-shown-k c =
    let s = c.args.session.now in
    let shown = c.branches-shown.result.now in
    let lt = below shown c.in-Some.k (c.in-Some.ensures).branch (c.in-Some.ensures).here in
    let few = few_shown s.spaces.ground s.examples shown c.branches-shown.ensures.shown in
    let small : c.in-Some.k < 8 = omega arith in
    search rules

pub bounds-shown-k : goal.bounds-shown-k
bounds-shown-k c = below c.branches-shown.result.now c.in-Some.k (c.in-Some.ensures).branch (c.in-Some.ensures).here

pub overflow_cast-result : goal.overflow_cast-result
overflow_cast-result c =
    let s = c.args.session.now in
    let shown = c.branches-shown.result.now in
    let lt = below shown c.in-Some.k (c.in-Some.ensures).branch (c.in-Some.ensures).here in
    let few = few_shown s.spaces.ground s.examples shown c.branches-shown.ensures.shown in
    let small : c.in-Some.k < 8 = omega arith in
    search rules

pub overflow_add-result : goal.overflow_add-result
overflow_add-result c =
    let s = c.args.session.now in
    let shown = c.branches-shown.result.now in
    let lt = below shown c.in-Some.k (c.in-Some.ensures).branch (c.in-Some.ensures).here in
    let few = few_shown s.spaces.ground s.examples shown c.branches-shown.ensures.shown in
    let small : c.in-Some.k < 8 = omega arith in
    search rules

pub returns-clause-taken : goal.returns-clause-taken
returns-clause-taken c =
    let s = c.args.session.now in
    let g = s.spaces.ground in
    let shown = c.branches-shown.result.now in
    let row = c.args.row in
    let k = c.in-Some.k in
    let text = c.in_ok-text.text in
    let program = program_tree (get_or shown k c.index-shown-k.result).program in
    let own : c.sheet.result.now ≡ g.sheet = c.sheet.ensures ∙ ap (λ (v : SpacesData). v.ground.sheet) c.spaces-spaces.ensures in
    let own_sheet : c.sheet-2.result.now ≡ g.sheet = c.sheet-2.ensures ∙ ap (λ (v : SpacesData). v.ground.sheet) c.spaces-spaces.ensures in
    let own_tables : c.tables.result.now ≡ g.tables = c.tables.ensures ∙ ap (λ (v : SpacesData). v.ground.tables) c.spaces-spaces.ensures in
    let first : IsFirstTaker g.sheet row shown k = subst (λ sheet. IsFirstTaker sheet row shown k) own c.in-Some.ensures in
    let value : IsValue (ProgramIs g.sheet g.tables row (program_tree (first.branch).program)) text =
    subst (λ (x : Branch). IsValue (ProgramIs g.sheet g.tables row (program_tree x.program)) text) (read shown k first.branch c.index-shown-k.result first.here)
    (subst (λ (tables : List TableData). IsValue (ProgramIs g.sheet tables row program) text) own_tables
    (subst (λ (sheet : SheetData). IsValue (ProgramIs sheet c.tables.result.now row program) text) own_sheet c.in_ok-text.ensures)) in
    is_taken g s.examples shown row k (k + 1) text c.branches-shown.ensures.shown first refl value

pub returns-clause-bounds : goal.returns-clause-bounds
returns-clause-bounds c =
    let shown = c.branches-shown.result.now in
    let k = c.in-Some.k in
    let lt = below shown k (c.in-Some.ensures).branch (c.in-Some.ensures).here in
    let same : length shown ≡ length c.args.session.now.branches = ap length c.branches-shown.ensures.same in
    let first : 1 ≤ k + 1 = omega arith in
    let last : k + 1 ≤ length c.args.session.now.branches = omega arith in
    (first, last)
