use Rattle.fill_print.specs.Grammar.{SubPart}
use Rattle.std.proofs.Common.{◌≡◌, ◌∷◌, ◌++◌, [], ◌-◌, ◌||◌, Bool, false, Some, map, ap, sym, subst, ◌∙◌, arith, codes, option_map}
use Rattle.std.proofs.lemmas.Grind.{common_steps}
use Rattle.std.proofs.lemmas.List.{map_push}
use Rattle.fill_tree.specs.Tree.{AtomTree}
use Rattle.fill_tree.specs.Meaning.{source_tree, atom_tree}
use Rattle.fill_tree.specs.Grammar.{is_part}
use Rattle.fill_print.specs.Conditions.{PlaceFront, SourceFront, Room, at_start, after_one, ConditionFront, ConditionStep, Conditions, IsRoom}
use Rattle.fill_print.specs.Grammar.{greatest}
use Rattle.fill_print.specs.Numbers.{Number}
use Rattle.fill_print.specs.Reading.{Plain, Takes, Reads}
use Rattle.fill_print.proofs.Chains.{Leads, exit, fails_in, both, in_first, in_rest, both_spelled, plain_one, plain_spelled, gives_spelled, done, reads_via, leads_more, leads_end, leads_halts}
use Rattle.fill_print.proofs.Decimals.{number_one, number_spelled}
use Rattle.fill_print.proofs.Dispatch.{reads_else, reads_same}
use Rattle.fill_print.proofs.Folds.{whole_tree, sub_tree, lookup_tree}
use Rattle.fill_print.proofs.LookupRules.{source_lookup, source_one, conditions_step_one}
use Rattle.fill_print.proofs.PlaceRules.{place_one, place_spelled}
use Rattle.fill_print.proofs.SourceRules.{source_column, source_flat, source_spelled, part_sub, part_whole, condition_only, condition_constant, condition_part, condition_spelled, step_first, step_must, step_end, step_more, step_close, start_room, after_room, conditions_spelled, conditions_complete}
use Rattle.fill_print.specs.Tokens.{tokens_of}
use Rattle.fill_print.proofs.read.sources.+sources.Goals as goal

pub lookup-returns-in_err-rest : goal.lookup-returns-in_err-rest
lookup-returns-in_err-rest t c = exit _ _ _ _ (Plain (codes "Select(")) c.args.bytes.now c.from_residual.ensures.1 c.in_err-rest.ensures
    (λ left h. in_first h (λ u. both_spelled (number_spelled greatest 44 (omega arith)) (λ x. both_spelled (number_spelled greatest 44 (omega arith)) (λ y. both_spelled (number_spelled greatest 44 (omega arith)) (λ z. both_spelled (conditions_spelled (tokens_of c.args.notation) c.args.depth at_start start_room) (λ xs. gives_spelled _))))))

pub lookup-returns-in_err-column : goal.lookup-returns-in_err-column
lookup-returns-in_err-column t c = exit _ _ _ _ (Number greatest 44) c.in_ok-rest.rest.now c.from_residual-in_err-column.ensures.1 c.in_err-column.ensures
    (λ left h. in_rest (plain_one (codes "Select(")) c.in_ok-rest.ensures (in_first h (λ x. both_spelled (number_spelled greatest 44 (omega arith)) (λ y. both_spelled (number_spelled greatest 44 (omega arith)) (λ z. both_spelled (conditions_spelled (tokens_of c.args.notation) c.args.depth at_start start_room) (λ xs. gives_spelled _))))))

pub lookup-returns-in_err-table : goal.lookup-returns-in_err-table
lookup-returns-in_err-table t c = exit _ _ _ _ (Number greatest 44) c.in_ok-column.rest.now c.from_residual-in_err-table.ensures.1 c.in_err-table.ensures
    (λ left h. in_rest (plain_one (codes "Select(")) c.in_ok-rest.ensures (in_rest (number_one greatest 44 (omega arith) (omega arith)) c.in_ok-column.ensures (in_first h (λ y. both_spelled (number_spelled greatest 44 (omega arith)) (λ z. both_spelled (conditions_spelled (tokens_of c.args.notation) c.args.depth at_start start_room) (λ xs. gives_spelled _))))))

pub lookup-returns-in_err-key : goal.lookup-returns-in_err-key
lookup-returns-in_err-key t c = exit _ _ _ _ (Number greatest 44) c.in_ok-table.rest.now c.from_residual-in_err-key.ensures.1 c.in_err-key.ensures
    (λ left h. in_rest (plain_one (codes "Select(")) c.in_ok-rest.ensures (in_rest (number_one greatest 44 (omega arith) (omega arith)) c.in_ok-column.ensures (in_rest (number_one greatest 44 (omega arith) (omega arith)) c.in_ok-table.ensures (in_first h (λ z. both_spelled (conditions_spelled (tokens_of c.args.notation) c.args.depth at_start start_room) (λ xs. gives_spelled _))))))

pub lookup-returns-in_err-conditions : goal.lookup-returns-in_err-conditions
lookup-returns-in_err-conditions t c = exit _ _ _ _ (Conditions (tokens_of c.args.notation) c.args.depth at_start) c.in_ok-key.rest.now c.from_residual-in_err-conditions.ensures.1 c.in_err-conditions.ensures
    (λ left h. in_rest (plain_one (codes "Select(")) c.in_ok-rest.ensures (in_rest (number_one greatest 44 (omega arith) (omega arith)) c.in_ok-column.ensures (in_rest (number_one greatest 44 (omega arith) (omega arith)) c.in_ok-table.ensures (in_rest (number_one greatest 44 (omega arith) (omega arith)) c.in_ok-key.ensures (in_first h (λ xs. gives_spelled _))))))

pub lookup-returns : goal.lookup-returns
lookup-returns t c =
    let e = c.in-Ok.ensures.ok in
    rw (lookup_tree c.in-Ok.boxed, e) (both c.in_ok-rest.ensures (both c.in_ok-column.ensures (both c.in_ok-table.ensures (both c.in_ok-key.ensures (both c.in_ok-conditions.ensures done)))))

pub whole-returns-in_err-rest : goal.whole-returns-in_err-rest
whole-returns-in_err-rest t c = exit _ _ _ _ (Plain (codes "Whole(")) c.args.bytes.now c.from_residual.ensures.1 c.in_err-rest.ensures
    (λ left h. in_first h (λ u. both_spelled (source_spelled (tokens_of c.args.notation) c.args.depth) (λ s. both_spelled (plain_spelled (codes ")")) (λ u. gives_spelled _))))

pub whole-returns-in_err-source : goal.whole-returns-in_err-source
whole-returns-in_err-source t c = exit _ _ _ _ (SourceFront (tokens_of c.args.notation) c.args.depth) c.in_ok-rest.rest.now c.from_residual-in_err-source.ensures.1 c.in_err-source.ensures
    (λ left h. in_rest (plain_one (codes "Whole(")) c.in_ok-rest.ensures (in_first h (λ s. both_spelled (plain_spelled (codes ")")) (λ u. gives_spelled _))))

pub whole-returns-in_err-rest-2 : goal.whole-returns-in_err-rest-2
whole-returns-in_err-rest-2 t c = exit _ _ _ _ (Plain (codes ")")) c.in_ok-source.rest.now c.from_residual-in_err-rest-2.ensures.1 c.in_err-rest-2.ensures
    (λ left h. in_rest (plain_one (codes "Whole(")) c.in_ok-rest.ensures (in_rest (source_one (tokens_of c.args.notation) c.args.depth) c.in_ok-source.ensures (in_first h (λ u. gives_spelled _))))

pub whole-returns : goal.whole-returns
whole-returns t c = rw (whole_tree c.in_ok-source.source) (both c.in_ok-rest.ensures (both c.in_ok-source.ensures (both c.in_ok-rest-2.ensures done)))

pub sub-returns-in_err-rest : goal.sub-returns-in_err-rest
sub-returns-in_err-rest t c = exit _ _ _ _ (Plain (codes "Sub(")) c.args.bytes.now c.from_residual.ensures.1 c.in_err-rest.ensures
    (λ left h. in_first h (λ u. both_spelled (source_spelled (tokens_of c.args.notation) c.args.depth) (λ s. both_spelled (plain_spelled (codes ",")) (λ u. both_spelled (place_spelled (tokens_of c.args.notation)) (λ p. both_spelled (plain_spelled (codes ",")) (λ u. both_spelled (place_spelled (tokens_of c.args.notation)) (λ q. both_spelled (plain_spelled (codes ")")) (λ u. gives_spelled _))))))))

pub sub-returns-in_err-source : goal.sub-returns-in_err-source
sub-returns-in_err-source t c = exit _ _ _ _ (SourceFront (tokens_of c.args.notation) c.args.depth) c.in_ok-rest.rest.now c.from_residual-in_err-source.ensures.1 c.in_err-source.ensures
    (λ left h. in_rest (plain_one (codes "Sub(")) c.in_ok-rest.ensures (in_first h (λ s. both_spelled (plain_spelled (codes ",")) (λ u. both_spelled (place_spelled (tokens_of c.args.notation)) (λ p. both_spelled (plain_spelled (codes ",")) (λ u. both_spelled (place_spelled (tokens_of c.args.notation)) (λ q. both_spelled (plain_spelled (codes ")")) (λ u. gives_spelled _))))))))

pub sub-returns-in_err-rest-2 : goal.sub-returns-in_err-rest-2
sub-returns-in_err-rest-2 t c = exit _ _ _ _ (Plain (codes ",")) c.in_ok-source.rest.now c.from_residual-in_err-rest-2.ensures.1 c.in_err-rest-2.ensures
    (λ left h. in_rest (plain_one (codes "Sub(")) c.in_ok-rest.ensures (in_rest (source_one (tokens_of c.args.notation) c.args.depth) c.in_ok-source.ensures (in_first h (λ u. both_spelled (place_spelled (tokens_of c.args.notation)) (λ p. both_spelled (plain_spelled (codes ",")) (λ u. both_spelled (place_spelled (tokens_of c.args.notation)) (λ q. both_spelled (plain_spelled (codes ")")) (λ u. gives_spelled _))))))))

pub sub-returns-in-Err : goal.sub-returns-in-Err
sub-returns-in-Err t c = fails_in (PlaceFront (tokens_of c.args.notation)) (SubPart (tokens_of c.args.notation) c.args.depth) c.in_ok-rest-2.rest.now c.args.bytes.now c.in-Err.e
    (λ left h. in_rest (plain_one (codes "Sub(")) c.in_ok-rest.ensures (in_rest (source_one (tokens_of c.args.notation) c.args.depth) c.in_ok-source.ensures (in_rest (plain_one (codes ",")) c.in_ok-rest-2.ensures (in_first h (λ p. both_spelled (plain_spelled (codes ",")) (λ u. both_spelled (place_spelled (tokens_of c.args.notation)) (λ q. both_spelled (plain_spelled (codes ")")) (λ u. gives_spelled _)))))))) c.in-Err.ensures

pub sub-returns-in_err-rest-3 : goal.sub-returns-in_err-rest-3
sub-returns-in_err-rest-3 t c = exit _ _ _ _ (Plain (codes ",")) c.in-Ok.read.1.now c.from_residual-in_err-rest-3.ensures.1 c.in_err-rest-3.ensures
    (λ left h. in_rest (plain_one (codes "Sub(")) c.in_ok-rest.ensures (in_rest (source_one (tokens_of c.args.notation) c.args.depth) c.in_ok-source.ensures (in_rest (plain_one (codes ",")) c.in_ok-rest-2.ensures (in_rest (place_one (tokens_of c.args.notation)) c.in-Ok.ensures (in_first h (λ u. both_spelled (place_spelled (tokens_of c.args.notation)) (λ q. both_spelled (plain_spelled (codes ")")) (λ u. gives_spelled _))))))))

pub sub-returns-in-Err-place : goal.sub-returns-in-Err-place
sub-returns-in-Err-place t c = fails_in (PlaceFront (tokens_of c.args.notation)) (SubPart (tokens_of c.args.notation) c.args.depth) c.in_ok-rest-3.rest.now c.args.bytes.now c.in-Err-place.e
    (λ left h. in_rest (plain_one (codes "Sub(")) c.in_ok-rest.ensures (in_rest (source_one (tokens_of c.args.notation) c.args.depth) c.in_ok-source.ensures (in_rest (plain_one (codes ",")) c.in_ok-rest-2.ensures (in_rest (place_one (tokens_of c.args.notation)) c.in-Ok.ensures (in_rest (plain_one (codes ",")) c.in_ok-rest-3.ensures (in_first h (λ q. both_spelled (plain_spelled (codes ")")) (λ u. gives_spelled _)))))))) c.in-Err-place.ensures

pub sub-returns-in_err-rest-4 : goal.sub-returns-in_err-rest-4
sub-returns-in_err-rest-4 t c = exit _ _ _ _ (Plain (codes ")")) c.in-Ok-place.read.1.now c.from_residual-in_err-rest-4.ensures.1 c.in_err-rest-4.ensures
    (λ left h. in_rest (plain_one (codes "Sub(")) c.in_ok-rest.ensures (in_rest (source_one (tokens_of c.args.notation) c.args.depth) c.in_ok-source.ensures (in_rest (plain_one (codes ",")) c.in_ok-rest-2.ensures (in_rest (place_one (tokens_of c.args.notation)) c.in-Ok.ensures (in_rest (plain_one (codes ",")) c.in_ok-rest-3.ensures (in_rest (place_one (tokens_of c.args.notation)) c.in-Ok-place.ensures (in_first h (λ u. gives_spelled _))))))))

pub sub-returns : goal.sub-returns
sub-returns t c = rw (sub_tree c.in_ok-source.source c.in-Ok.read.0 c.in-Ok-place.read.0) (both c.in_ok-rest.ensures (both c.in_ok-source.ensures (both c.in_ok-rest-2.ensures (both c.in-Ok.ensures (both c.in_ok-rest-3.ensures (both c.in-Ok-place.ensures (both c.in_ok-rest-4.ensures done)))))))

pub first_condition-returns-in_err-atom : goal.first_condition-returns-in_err-atom
first_condition-returns-in_err-atom t c = exit _ _ _ _ (ConditionFront (tokens_of c.args.notation) c.args.depth false) c.args.bytes.now c.from_residual.ensures.1 c.in_err-atom.ensures
    (λ left h. in_first h (λ a. gives_spelled _))

pub first_condition-returns : goal.first_condition-returns
first_condition-returns t c = both c.in_ok-atom.ensures done

pub later_condition-returns-in_err-rest : goal.later_condition-returns-in_err-rest
later_condition-returns-in_err-rest t c = exit _ _ _ _ (Plain (codes ",")) c.args.bytes.now c.from_residual.ensures.1 c.in_err-rest.ensures
    (λ left h. in_first h (λ u. both_spelled (condition_spelled (tokens_of c.args.notation) c.args.depth c.args.only_part) (λ a. gives_spelled _)))

pub later_condition-returns-in_err-atom : goal.later_condition-returns-in_err-atom
later_condition-returns-in_err-atom t c = exit _ _ _ _ (ConditionFront (tokens_of c.args.notation) c.args.depth c.args.only_part) c.in_ok-rest.rest.now c.from_residual-in_err-atom.ensures.1 c.in_err-atom.ensures
    (λ left h. in_rest (plain_one (codes ",")) c.in_ok-rest.ensures (in_first h (λ a. gives_spelled _)))

pub later_condition-returns : goal.later_condition-returns
later_condition-returns t c = both c.in_ok-rest.ensures (both c.in_ok-atom.ensures done)

pub source-returns-then-depth-eq0 : goal.source-returns-then-depth-eq0
source-returns-then-depth-eq0 t c = reads_same (λ x. source_tree x.0) (λ x. x.1.now) c.args.bytes.now c.column.result (source_flat (tokens_of c.args.notation) c.args.depth c.if-depth-eq0.true) c.column.ensures

pub source-returns-in-Some : goal.source-returns-in-Some
source-returns-in-Some t c = reads_via (λ x. source_tree x.0) (λ x. x.1.now) 83 c.args.bytes.now c.in-Some._rest.now c.lookup.result (source_lookup (tokens_of c.args.notation) c.args.depth c.if-depth-eq0.false) c.in-Some.ensures c.lookup.ensures

pub source-returns-in-None : goal.source-returns-in-None
source-returns-in-None t c = reads_else (λ x. source_tree x.0) (λ x. x.1.now) 83 c.args.bytes.now c.column-in-None.result (source_column (tokens_of c.args.notation) c.args.depth) c.in-None.ensures c.column-in-None.ensures

pub condition-returns-then-only_part : goal.condition-returns-then-only_part
condition-returns-then-only_part t c =
    let read = reads_same (λ x. atom_tree x.0) (λ x. x.1.now) c.args.bytes.now c.part.result (condition_only (tokens_of c.args.notation) c.args.depth) c.part.ensures in
    subst (λ b. Reads (λ x. atom_tree x.0) (λ x. x.1.now) (ConditionFront (tokens_of c.args.notation) c.args.depth b) c.args.bytes.now c.part.result) (sym c.if-only_part.true) read

pub condition-returns-in-Some : goal.condition-returns-in-Some
condition-returns-in-Some t c =
    let read = reads_via (λ x. atom_tree x.0) (λ x. x.1.now) 67 c.args.bytes.now c.in-Some._rest.now c.constant.result (condition_constant (tokens_of c.args.notation) c.args.depth) c.in-Some.ensures c.constant.ensures in
    subst (λ b. Reads (λ x. atom_tree x.0) (λ x. x.1.now) (ConditionFront (tokens_of c.args.notation) c.args.depth b) c.args.bytes.now c.constant.result) (sym c.if-only_part.false) read

pub condition-returns-in-None : goal.condition-returns-in-None
condition-returns-in-None t c =
    let read = reads_else (λ x. atom_tree x.0) (λ x. x.1.now) 67 c.args.bytes.now c.part-in-None.result (condition_part (tokens_of c.args.notation) c.args.depth) c.in-None.ensures c.part-in-None.ensures in
    subst (λ b. Reads (λ x. atom_tree x.0) (λ x. x.1.now) (ConditionFront (tokens_of c.args.notation) c.args.depth b) c.args.bytes.now c.part-in-None.result) (sym c.if-only_part.false) read

pub part-returns-in-Some : goal.part-returns-in-Some
part-returns-in-Some t c = reads_via (λ x. atom_tree x.0) (λ x. x.1.now) 83 c.args.bytes.now c.in-Some._rest.now c.sub.result (part_sub (tokens_of c.args.notation) c.args.depth) c.in-Some.ensures c.sub.ensures

pub part-returns-in-None : goal.part-returns-in-None
part-returns-in-None t c = reads_else (λ x. atom_tree x.0) (λ x. x.1.now) 83 c.args.bytes.now c.whole.result (part_whole (tokens_of c.args.notation) c.args.depth) c.in-None.ensures c.whole.ensures

pub next_condition-returns-then-room-eq3 : goal.next_condition-returns-then-room-eq3
next_condition-returns-then-room-eq3 t c = reads_same (λ x. option_map atom_tree x.0) (λ x. x.1.now) c.args.bytes.now c.first_condition.result (step_first (tokens_of c.args.notation) c.args.depth (record { room = c.args.room; seen = c.args.seen }) c.if-room-eq3.true (c.requires.first c.if-room-eq3.true)) c.first_condition.ensures

pub next_condition-returns-then-not-seen : goal.next_condition-returns-then-not-seen
next_condition-returns-then-not-seen t c = reads_same (λ x. option_map atom_tree x.0) (λ x. x.1.now) c.args.bytes.now c.later_condition.result (step_must (tokens_of c.args.notation) c.args.depth (record { room = c.args.room; seen = c.args.seen }) c.if-room-eq3.false c.if-not-seen.true (c.requires.alive c.if-not-seen.true)) c.later_condition.ensures

pub next_condition-returns-then-room-eq0 : goal.next_condition-returns-then-room-eq0
next_condition-returns-then-room-eq0 t c = reads_same (λ x. option_map atom_tree x.0) (λ x. x.1.now) c.args.bytes.now c.no_atom.result (step_end (tokens_of c.args.notation) c.args.depth (record { room = c.args.room; seen = c.args.seen }) c.if-room-eq0.true c.if-not-seen.false) c.no_atom.ensures

pub next_condition-returns-in-Some : goal.next_condition-returns-in-Some
next_condition-returns-in-Some t c = reads_via (λ x. option_map atom_tree x.0) (λ x. x.1.now) 44 c.args.bytes.now c.in-Some._rest.now c.later_condition-in-Some.result (step_more (tokens_of c.args.notation) c.args.depth (record { room = c.args.room; seen = c.args.seen }) c.if-room-eq3.false c.if-room-eq0.false c.if-not-seen.false) c.in-Some.ensures c.later_condition-in-Some.ensures

pub next_condition-returns-in-None : goal.next_condition-returns-in-None
next_condition-returns-in-None t c = reads_else (λ x. option_map atom_tree x.0) (λ x. x.1.now) 44 c.args.bytes.now c.no_atom-in-None.result (step_close (tokens_of c.args.notation) c.args.depth (record { room = c.args.room; seen = c.args.seen }) c.if-room-eq3.false c.if-not-seen.false) c.in-None.ensures c.no_atom-in-None.ensures

pub conditions-returns-in_err-next : goal.conditions-returns-in_err-next
conditions-returns-in_err-next t c =
    let r : Room = record { room = c.loop-conditions.room; seen = c.loop-conditions.seen } in
    exit _ _ _ _ (ConditionStep (tokens_of c.args.notation) c.args.depth r) c.loop-conditions.rest.now c.from_residual.ensures.1 c.in_err-next.ensures
    (λ left h. leads_halts (ConditionStep (tokens_of c.args.notation) c.args.depth) after_one (Conditions (tokens_of c.args.notation) c.args.depth at_start) r (conditions_complete (tokens_of c.args.notation) c.args.depth r c.loop-conditions.invariant.room) (map atom_tree c.loop-conditions.conditions) c.args.bytes.now c.loop-conditions.rest.now left c.loop-conditions.invariant.read h)

pub conditions-returns-in_default : goal.conditions-returns-in_default
conditions-returns-in_default t c =
    let r : Room = record { room = c.loop-conditions.room; seen = c.loop-conditions.seen } in
    leads_end (ConditionStep (tokens_of c.args.notation) c.args.depth) after_one (Conditions (tokens_of c.args.notation) c.args.depth at_start) r (map atom_tree c.loop-conditions.conditions) c.args.bytes.now c.loop-conditions.rest.now c.in_ok-next.after.now c.loop-conditions.invariant.read
    (subst (λ x. Takes (ConditionStep (tokens_of c.args.notation) c.args.depth r) c.loop-conditions.rest.now (option_map atom_tree x) c.in_ok-next.after.now) c.in_default.is c.in_ok-next.ensures)

pub conditions-loop-conditions-preserved : goal.conditions-loop-conditions-preserved
conditions-loop-conditions-preserved t c =
    let r : Room = record { room = c.loop-conditions.room; seen = c.loop-conditions.seen } in
    let a : AtomTree = atom_tree c.in-Some.condition in
    let read : Takes (ConditionStep (tokens_of c.args.notation) c.args.depth r) c.loop-conditions.rest.now (Some a) c.in_ok-next.after.now =
    subst (λ x. Takes (ConditionStep (tokens_of c.args.notation) c.args.depth r) c.loop-conditions.rest.now (option_map atom_tree x) c.in_ok-next.after.now) c.in-Some.is c.in_ok-next.ensures in
    let items : map atom_tree c.push.new.self ≡ map atom_tree c.loop-conditions.conditions ++ a ∷ [] =
    (let pushed : c.push.new.self ≡ c.loop-conditions.conditions ++ c.in-Some.condition ∷ [] = grind (arith, common_steps) in
    ap (map atom_tree) pushed ∙ map_push atom_tree c.loop-conditions.conditions c.in-Some.condition) in
    let seen : c.seen_with-seen.result ≡ (r.seen || is_part a) = c.seen_with-seen.ensures in
    let later : Room = record { room = c.loop-conditions.room - 1; seen = c.seen_with-seen.result } in
    let same : after_one r a ≡ later = ap (λ (b : Bool). let x : Room = record { room = c.loop-conditions.room - 1; seen = b } in x) (sym seen) in
    record {
      read = subst (λ xs. Leads (Conditions (tokens_of c.args.notation) c.args.depth at_start) (Conditions (tokens_of c.args.notation) c.args.depth later) xs c.args.bytes.now c.in_ok-next.after.now) (sym items)
          (subst (λ x. Leads (Conditions (tokens_of c.args.notation) c.args.depth at_start) (Conditions (tokens_of c.args.notation) c.args.depth x) (map atom_tree c.loop-conditions.conditions ++ a ∷ []) c.args.bytes.now c.in_ok-next.after.now) same
          (leads_more (ConditionStep (tokens_of c.args.notation) c.args.depth) after_one (Conditions (tokens_of c.args.notation) c.args.depth at_start) r (conditions_step_one (tokens_of c.args.notation) c.args.depth r) (map atom_tree c.loop-conditions.conditions) a c.args.bytes.now c.loop-conditions.rest.now c.in_ok-next.after.now c.loop-conditions.invariant.read read));
      room = subst IsRoom same (after_room (tokens_of c.args.notation) c.args.depth r a (read.front ++ []) [] c.loop-conditions.invariant.room (read.spelled []));
    }
