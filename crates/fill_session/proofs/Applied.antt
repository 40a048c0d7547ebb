-- What an edit without a reason against it leaves: examples in the order of their rows, each allowed, at most sixty-four.
use Rattle.std.proofs.Common.{◌≡◌, ℕ, ◌+◌, ◌*◌, ◌<◌, ◌≤◌, ◌==◌, not, List, [], length, drop, take, ◌∷◌, ◌++◌, All, None, append_assoc, ◌-◌, length-drop, refl, sym, ap, ◌∙◌, arith}
use Rattle.std.proofs.lemmas.List.Elements.{All-nil}
use Rattle.std.proofs.lemmas.List.{take_all}
use Rattle.std.proofs.lemmas.List.Kept.{AllPairs-filter}
use Rattle.std.proofs.lemmas.List.Sums.{length-filter, count_by-le-length}
use Rattle.fill_text.specs.Data.{SheetData}
use Rattle.fill_tree.specs.declared.user.Edit.{Edit}
use Rattle.fill_tree.specs.declared.user.Edit.TheVariants.{Add, Correct, Retract, Clear}
use Rattle.fill_tree.specs.declared.user.Example.{Example}
use Rattle.fill_split.specs.Changes.{changed as changed_at}
use Rattle.fill_split.specs.declared.change.Change.TheVariants.{Insert, Replace, Remove}
use Rattle.fill_space.specs.declared.ground.Ground.{Ground}
use Rattle.fill_space.specs.Ground.{MayStand}
use Rattle.fill_session.specs.Edits.{AreExamples, changed, with_example, without_example}
use Rattle.fill_session.specs.Outcome.{first_reason, steps_from, term, term_of}
use Rattle.fill_session.proofs.Rising.{Rises, rises, are_examples, before, through}
use Rattle.fill_session.proofs.Seen.{may_add, may_correct, is_given}
use Rattle.fill_session.proofs.Spliced.{spliced_with, spliced_without, one_here, none_between, rises_with, before_with, before_without, later_counted, count_with, count_replaced, all_with, all_without}

-- an example of these
abbrev pub example : ℕ → List ℕ → Example
example row text = record { row = row; text = text }

pub stay_examples : (xs : List Example) (edit : Edit) → AreExamples xs → AreExamples (changed xs edit)
stay_examples xs (Add row text) h = are_examples (with_example (example row text) xs) (rises_with (example row text) xs (rises xs h))
stay_examples xs (Correct row text) h = are_examples (with_example (example row text) xs) (rises_with (example row text) xs (rises xs h))
stay_examples xs (Retract row) h = AllPairs-filter (λ (a b : Example). a.row < b.row) (λ x. not (x.row == row)) xs h
stay_examples xs Clear h = λ i j d less lt. absurd (omega arith)

pub stay_allowed : (g : Ground) (xs : List Example) (edit : Edit) → first_reason g.sheet xs edit ≡ None → All (MayStand g) xs → All (MayStand g) (changed xs edit)
stay_allowed g xs (Add row text) free h =
    let may = may_add g.sheet xs row text free in
    all_with (MayStand g) (example row text) xs (record { first = may.there.first; last = may.there.last; short = may.short }) h
stay_allowed g xs (Correct row text) free h =
    let may = may_correct g.sheet xs row text free in
    all_with (MayStand g) (example row text) xs (record { first = may.there.first; last = may.there.last; short = may.short }) h
stay_allowed g xs (Retract row) free h = all_without (MayStand g) row xs h
stay_allowed g xs Clear free h = All-nil (MayStand g)

pub stay_few : (sheet : SheetData) (xs : List Example) (edit : Edit) → first_reason sheet xs edit ≡ None → AreExamples xs → length xs ≤ 64 → length (changed xs edit) ≤ 64
stay_few sheet xs (Add row text) free h few =
    let most = (may_add sheet xs row text free).few in
    let size = count_with (example row text) xs in
    omega arith
stay_few sheet xs (Correct row text) free h few =
    let size = count_replaced (example row text) xs (rises xs h) (may_correct sheet xs row text free).given in
    omega arith
stay_few sheet xs (Retract row) free h few =
    let size = length-filter (λ (x : Example). not (x.row == row)) xs in
    let most = count_by-le-length (λ (x : Example). not (x.row == row)) xs in
    omega arith
stay_few sheet xs Clear free h few = omega arith

-- the change at the place before the row
pub added_at : (sheet : SheetData) (xs : List Example) (row : ℕ) (text : List ℕ) → AreExamples xs → first_reason sheet xs (Add row text) ≡ None
    → changed_at (Insert (example row text)) (before row xs) xs ≡ with_example (example row text) xs
added_at sheet xs row text h free =
    let same : before row xs + 0 ≡ through row xs = (let e = none_between row xs (may_add sheet xs row text free).free in omega arith) in
    rw same (append_assoc (take (before row xs) xs) (example row text ∷ []) (drop (through row xs) xs) ∙ sym (spliced_with (example row text) xs (rises xs h)))

pub corrected_at : (sheet : SheetData) (xs : List Example) (row : ℕ) (text : List ℕ) → AreExamples xs → first_reason sheet xs (Correct row text) ≡ None
    → changed_at (Replace (example row text)) (before row xs) xs ≡ with_example (example row text) xs
corrected_at sheet xs row text h free =
    rw (← one_here row xs (rises xs h) (may_correct sheet xs row text free).given)
    (append_assoc (take (before row xs) xs) (example row text ∷ []) (drop (through row xs) xs) ∙ sym (spliced_with (example row text) xs (rises xs h)))

pub retracted_at : (sheet : SheetData) (xs : List Example) (row : ℕ) → AreExamples xs → first_reason sheet xs (Retract row) ≡ None
    → changed_at Remove (before row xs) xs ≡ without_example row xs
retracted_at sheet xs row h free =
    rw (← one_here row xs (rises xs h) (is_given sheet xs row free))
    (append_assoc (take (before row xs) xs) [] (drop (through row xs) xs) ∙ sym (spliced_without row xs (rises xs h)))

-- the steps of an edit are those of the examples from its place on
steps_with : (e : Example) (xs : List Example) → AreExamples xs → 1 + 8 * length (drop (before e.row xs) (with_example e xs)) ≡ steps_from (with_example e xs) e.row
steps_with e xs h =
    let there : Rises (with_example e xs) = rises_with e xs (rises xs h) in
    rw (later_counted e.row (with_example e xs) there, before_with e xs) refl

steps_without : (n : ℕ) (xs : List Example) → AreExamples xs → 1 + 8 * length (drop (before n xs) (without_example n xs)) ≡ steps_from (without_example n xs) n
steps_without n xs h =
    let there : Rises (without_example n xs) = rises (without_example n xs) (AllPairs-filter (λ (a b : Example). a.row < b.row) (λ x. not (x.row == n)) xs h) in
    rw (later_counted n (without_example n xs) there, before_without n xs (rises xs h)) refl

pub steps_added : (sheet : SheetData) (xs : List Example) (row : ℕ) (text : List ℕ) → AreExamples xs → first_reason sheet xs (Add row text) ≡ None
    → 1 + 8 * length (drop (before row xs) (changed xs (Add row text))) ≡ term sheet xs (Add row text)
steps_added sheet xs row text h free = steps_with (example row text) xs h ∙ sym (ap (λ o. term_of o (changed xs (Add row text)) (Add row text)) free)

pub steps_corrected : (sheet : SheetData) (xs : List Example) (row : ℕ) (text : List ℕ) → AreExamples xs → first_reason sheet xs (Correct row text) ≡ None
    → 1 + 8 * length (drop (before row xs) (changed xs (Correct row text))) ≡ term sheet xs (Correct row text)
steps_corrected sheet xs row text h free = steps_with (example row text) xs h ∙ sym (ap (λ o. term_of o (changed xs (Correct row text)) (Correct row text)) free)

pub steps_retracted : (sheet : SheetData) (xs : List Example) (row : ℕ) → AreExamples xs → first_reason sheet xs (Retract row) ≡ None
    → 1 + 8 * length (drop (before row xs) (changed xs (Retract row))) ≡ term sheet xs (Retract row)
steps_retracted sheet xs row h free = steps_without row xs h ∙ sym (ap (λ o. term_of o (changed xs (Retract row)) (Retract row)) free)

-- the slice from a place on
rest_of : (t : ℕ) (xs : List Example) → take (length xs - t) (drop t xs) ≡ drop t xs
rest_of t xs = take_all (length xs - t) (drop t xs) (let size = length-drop t xs in omega arith)

-- what is put together piece by piece
pub assembled : (none first second last xs : List Example) (b t : ℕ) (e : Example) → none ≡ [] → first ≡ none ++ take b xs → second ≡ first ++ e ∷ [] → last ≡ second ++ take (length xs - t) (drop t xs)
    → last ≡ take b xs ++ e ∷ drop t xs
assembled none first second last xs b t e is_none is_first is_second is_last =
    is_last ∙ ap (λ (ys : List Example). second ++ ys) (rest_of t xs) ∙ (ap (λ (ys : List Example). ys ++ drop t xs) (is_second ∙ ap (λ (ys : List Example). ys ++ e ∷ []) (is_first ∙ ap (λ (ys : List Example). ys ++ take b xs) is_none))
    ∙ append_assoc (take b xs) (e ∷ []) (drop t xs))

pub joined : (none first last xs : List Example) (b t : ℕ) → none ≡ [] → first ≡ none ++ take b xs → last ≡ first ++ take (length xs - t) (drop t xs) → last ≡ take b xs ++ drop t xs
joined none first last xs b t is_none is_first is_last =
    is_last ∙ ap (λ (ys : List Example). first ++ ys) (rest_of t xs) ∙ ap (λ (ys : List Example). ys ++ drop t xs) (is_first ∙ ap (λ (ys : List Example). ys ++ take b xs) is_none)
