use Rattle.std.proofs.Common.{◌≡◌, ◌∷◌, ◌++◌, [], true, false, Some, map, ap, sym, subst, ◌∙◌, arith, option_map}
use Rattle.std.proofs.lemmas.Grind.{common_steps}
use Rattle.std.proofs.lemmas.List.{map_push}
use Rattle.fill_tree.specs.Meaning.{atom_tree}
use Rattle.fill_print.specs.Programs.{AtomStep, then_later, ProgramAtoms}
use Rattle.fill_print.specs.Reading.{Takes}
use Rattle.fill_print.proofs.Chains.{Leads, exit, leads_more, leads_end, leads_halts}
use Rattle.fill_print.proofs.ProgramRules.{atom_step_one, atoms_complete}
use Rattle.fill_print.specs.Tokens.{tokens_of}
use Rattle.fill_print.proofs.read.programs.atoms.Goals as goal

pub returns-in_err-next : goal.returns-in_err-next
returns-in_err-next c =
    exit _ _ _ _ (AtomStep (tokens_of c.args.notation) c.loop-atoms.first) c.loop-atoms.rest.now c.from_residual.ensures.1 c.in_err-next.ensures
    (λ left h. leads_halts (AtomStep (tokens_of c.args.notation)) then_later (ProgramAtoms (tokens_of c.args.notation) true) c.loop-atoms.first (atoms_complete (tokens_of c.args.notation) c.loop-atoms.first) (map atom_tree c.loop-atoms.atoms) c.args.bytes.now c.loop-atoms.rest.now left c.loop-atoms.invariant h)

pub returns-in_default : goal.returns-in_default
returns-in_default c =
    leads_end (AtomStep (tokens_of c.args.notation)) then_later (ProgramAtoms (tokens_of c.args.notation) true) c.loop-atoms.first (map atom_tree c.loop-atoms.atoms) c.args.bytes.now c.loop-atoms.rest.now c.in_ok-next.after.now c.loop-atoms.invariant
    (subst (λ x. Takes (AtomStep (tokens_of c.args.notation) c.loop-atoms.first) c.loop-atoms.rest.now (option_map atom_tree x) c.in_ok-next.after.now) c.in_default.is c.in_ok-next.ensures)

pub loop-atoms-preserved : goal.loop-atoms-preserved
loop-atoms-preserved c =
    let a = atom_tree c.in-Some.atom in
    let read : Takes (AtomStep (tokens_of c.args.notation) c.loop-atoms.first) c.loop-atoms.rest.now (Some a) c.in_ok-next.after.now =
    subst (λ x. Takes (AtomStep (tokens_of c.args.notation) c.loop-atoms.first) c.loop-atoms.rest.now (option_map atom_tree x) c.in_ok-next.after.now) c.in-Some.is c.in_ok-next.ensures in
    let items : map atom_tree c.push.new.self ≡ map atom_tree c.loop-atoms.atoms ++ a ∷ [] =
    (let pushed : c.push.new.self ≡ c.loop-atoms.atoms ++ c.in-Some.atom ∷ [] = grind (arith, common_steps) in
    ap (map atom_tree) pushed ∙ map_push atom_tree c.loop-atoms.atoms c.in-Some.atom) in
    subst (λ xs. Leads (ProgramAtoms (tokens_of c.args.notation) true) (ProgramAtoms (tokens_of c.args.notation) false) xs c.args.bytes.now c.in_ok-next.after.now) (sym items)
    (leads_more (AtomStep (tokens_of c.args.notation)) then_later (ProgramAtoms (tokens_of c.args.notation) true) c.loop-atoms.first (atom_step_one (tokens_of c.args.notation) c.loop-atoms.first) (map atom_tree c.loop-atoms.atoms) a c.args.bytes.now c.loop-atoms.rest.now c.in_ok-next.after.now c.loop-atoms.invariant read)
