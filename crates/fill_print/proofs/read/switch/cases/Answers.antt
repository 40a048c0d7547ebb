use Rattle.std.proofs.Common.{◌≡◌, ◌∷◌, ◌++◌, [], Some, map, ap, sym, subst, ◌∙◌, arith, option_map}
use Rattle.std.proofs.lemmas.Grind.{common_steps}
use Rattle.std.proofs.lemmas.List.{map_push}
use Rattle.fill_tree.specs.Switch.{case_tree}
use Rattle.fill_print.specs.Reading.{Takes}
use Rattle.fill_print.specs.Switches.{CaseStep, one_less, Cases}
use Rattle.fill_print.proofs.Chains.{Leads, exit, leads_more, leads_end, leads_halts}
use Rattle.fill_print.proofs.SwitchRules.{case_step_one, cases_complete}
use Rattle.std.proofs.Common.{◌-◌}
use Rattle.fill_print.specs.Tokens.{tokens_of}
use Rattle.fill_print.proofs.read.switch.cases.Goals as goal

pub returns-in_err-next : goal.returns-in_err-next
returns-in_err-next c =
    exit _ _ _ _ (CaseStep (tokens_of c.args.notation) c.loop-cases.room) c.loop-cases.rest.now c.from_residual.ensures.1 c.in_err-next.ensures
    (λ left h. leads_halts (CaseStep (tokens_of c.args.notation)) one_less (Cases (tokens_of c.args.notation) 7) c.loop-cases.room (cases_complete (tokens_of c.args.notation) c.loop-cases.room) (map case_tree c.loop-cases.cases) c.args.bytes.now c.loop-cases.rest.now left c.loop-cases.invariant h)

pub returns-in_default : goal.returns-in_default
returns-in_default c =
    leads_end (CaseStep (tokens_of c.args.notation)) one_less (Cases (tokens_of c.args.notation) 7) c.loop-cases.room (map case_tree c.loop-cases.cases) c.args.bytes.now c.loop-cases.rest.now c.in_ok-next.after.now c.loop-cases.invariant
    (subst (λ x. Takes (CaseStep (tokens_of c.args.notation) c.loop-cases.room) c.loop-cases.rest.now (option_map case_tree x) c.in_ok-next.after.now) c.in_default.is c.in_ok-next.ensures)

pub loop-cases-preserved : goal.loop-cases-preserved
loop-cases-preserved c =
    let a = case_tree c.in-Some.case in
    let read : Takes (CaseStep (tokens_of c.args.notation) c.loop-cases.room) c.loop-cases.rest.now (Some a) c.in_ok-next.after.now =
    subst (λ x. Takes (CaseStep (tokens_of c.args.notation) c.loop-cases.room) c.loop-cases.rest.now (option_map case_tree x) c.in_ok-next.after.now) c.in-Some.is c.in_ok-next.ensures in
    let items : map case_tree c.push.new.self ≡ map case_tree c.loop-cases.cases ++ a ∷ [] =
    (let pushed : c.push.new.self ≡ c.loop-cases.cases ++ c.in-Some.case ∷ [] = grind (arith, common_steps) in
    ap (map case_tree) pushed ∙ map_push case_tree c.loop-cases.cases c.in-Some.case) in
    subst (λ xs. Leads (Cases (tokens_of c.args.notation) 7) (Cases (tokens_of c.args.notation) (c.loop-cases.room - 1)) xs c.args.bytes.now c.in_ok-next.after.now) (sym items)
    (leads_more (CaseStep (tokens_of c.args.notation)) one_less (Cases (tokens_of c.args.notation) 7) c.loop-cases.room (case_step_one (tokens_of c.args.notation) c.loop-cases.room) (map case_tree c.loop-cases.cases) a c.args.bytes.now c.loop-cases.rest.now c.in_ok-next.after.now c.loop-cases.invariant read)
