use Rattle.std.proofs.Common.{option_map, sym, subst}
use Rattle.fill_tree.specs.Meaning.{atom_tree}
use Rattle.fill_print.specs.Programs.{AtomStep}
use Rattle.fill_print.specs.Reading.{Reads}
use Rattle.fill_print.proofs.Chains.{reads_via}
use Rattle.fill_print.proofs.Dispatch.{reads_else, reads_behind}
use Rattle.fill_print.proofs.ProgramRules.{first_none, first_some, later_some, later_none}
use Rattle.fill_print.specs.Tokens.{tokens_of}
use Rattle.fill_print.proofs.read.programs.next_atom.Goals as goal

pub returns-in-Some : goal.returns-in-Some
returns-in-Some c =
    let read = reads_via (λ x. option_map atom_tree x.0) (λ x. x.1.now) 41 c.args.bytes.now c.in-Some._rest.now c.no_atom.result (first_none (tokens_of c.args.notation)) c.in-Some.ensures c.no_atom.ensures in
    subst (λ b. Reads (λ x. option_map atom_tree x.0) (λ x. x.1.now) (AtomStep (tokens_of c.args.notation) b) c.args.bytes.now c.no_atom.result) (sym c.if-first.true) read

pub returns-in-None : goal.returns-in-None
returns-in-None c =
    let read = reads_else (λ x. option_map atom_tree x.0) (λ x. x.1.now) 41 c.args.bytes.now c.some_atom.result (first_some (tokens_of c.args.notation)) c.in-None.ensures c.some_atom.ensures in
    subst (λ b. Reads (λ x. option_map atom_tree x.0) (λ x. x.1.now) (AtomStep (tokens_of c.args.notation) b) c.args.bytes.now c.some_atom.result) (sym c.if-first.true) read

pub returns-in-Some-after : goal.returns-in-Some-after
returns-in-Some-after c =
    let read = reads_behind (λ x. option_map atom_tree x.0) (λ x. x.1.now) 44 c.args.bytes.now c.in-Some-after.rest.now c.some_atom-in-Some-after.result (later_some (tokens_of c.args.notation)) c.in-Some-after.ensures c.some_atom-in-Some-after.ensures in
    subst (λ b. Reads (λ x. option_map atom_tree x.0) (λ x. x.1.now) (AtomStep (tokens_of c.args.notation) b) c.args.bytes.now c.some_atom-in-Some-after.result) (sym c.if-first.false) read

pub returns-in-None-after : goal.returns-in-None-after
returns-in-None-after c =
    let read = reads_else (λ x. option_map atom_tree x.0) (λ x. x.1.now) 44 c.args.bytes.now c.no_atom-in-None-after.result (later_none (tokens_of c.args.notation)) c.in-None-after.ensures c.no_atom-in-None-after.ensures in
    subst (λ b. Reads (λ x. option_map atom_tree x.0) (λ x. x.1.now) (AtomStep (tokens_of c.args.notation) b) c.args.bytes.now c.no_atom-in-None-after.result) (sym c.if-first.false) read
