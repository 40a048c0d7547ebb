use Rattle.std.proofs.Common.{◌<◌, length, slice_get, Some, sym, ap, ◌∙◌, arith}
use Rattle.std.proofs.lemmas.List.{length-map}
use Rattle.fill_arena.specs.Entries.{entry_at}
use Rattle.fill_arena.specs.declared.entries.Stored.TheVariants as stored
use Rattle.fill_arena.specs.declared.entry.Entry.TheVariants as kind
use Rattle.fill_arena.proofs.Pooled.{get_shown, slice_there}
use Rattle.fill_arena.proofs.Scan.{here}
use Rattle.fill_arena.proofs.entries.Entries.get.Goals as goal

pub slice-requires : goal.slice-requires
slice-requires c =
    let ks = c.self.inside.stored.items in let places = c.self.inside.places in let n = c.args.number in
    let lt : n < length ks = omega (arith, c.requires, ap length c.self.view_is, length-map ks (entry_at places)) in
    let there = here ks n c.index.result.now lt c.index.ensures ∙ ap Some c.in-Places.is in
    slice_there 0 (length places) ks n c.in-Places.span c.in-Places.field-1 there c.self.invariant

pub returns-in-Places : goal.returns-in-Places
returns-in-Places c =
    let ks = c.self.inside.stored.items in let places = c.self.inside.places in let n = c.args.number in
    let lt : n < length ks = omega (arith, c.requires, ap length c.self.view_is, length-map ks (entry_at places)) in
    let there = here ks n c.index.result.now lt c.index.ensures ∙ ap Some c.in-Places.is in
    ap (λ l. slice_get l n) (sym c.self.view_is) ∙ get_shown ks n (stored.Places c.in-Places.span c.in-Places.field-1) places there ∙ ap (λ l. Some (kind.Places l)) (sym c.slice.ensures)

pub returns-in-Sources : goal.returns-in-Sources
returns-in-Sources c =
    let ks = c.self.inside.stored.items in let places = c.self.inside.places in let n = c.args.number in
    let lt : n < length ks = omega (arith, c.requires, ap length c.self.view_is, length-map ks (entry_at places)) in
    let there = here ks n c.index.result.now lt c.index.ensures ∙ ap Some c.in-Sources.is in
    ap (λ l. slice_get l n) (sym c.self.view_is) ∙ get_shown ks n (stored.Sources c.in-Sources.items) places there ∙ ap (λ l. Some (kind.Sources l)) (sym c.as_slice.ensures)

pub returns-in-Atom : goal.returns-in-Atom
returns-in-Atom c =
    let ks = c.self.inside.stored.items in let places = c.self.inside.places in let n = c.args.number in
    let lt : n < length ks = omega (arith, c.requires, ap length c.self.view_is, length-map ks (entry_at places)) in
    let there = here ks n c.index.result.now lt c.index.ensures ∙ ap Some c.in-Atom.is in
    ap (λ l. slice_get l n) (sym c.self.view_is) ∙ get_shown ks n (stored.Atom c.in-Atom.item) places there ∙ ap (λ l. Some (kind.Atoms l)) (sym c.from_ref.ensures.value)

pub returns-in-Atoms : goal.returns-in-Atoms
returns-in-Atoms c =
    let ks = c.self.inside.stored.items in let places = c.self.inside.places in let n = c.args.number in
    let lt : n < length ks = omega (arith, c.requires, ap length c.self.view_is, length-map ks (entry_at places)) in
    let there = here ks n c.index.result.now lt c.index.ensures ∙ ap Some c.in-Atoms.is in
    ap (λ l. slice_get l n) (sym c.self.view_is) ∙ get_shown ks n (stored.Atoms c.in-Atoms.items) places there ∙ ap (λ l. Some (kind.Atoms l)) (sym c.as_slice-in-Atoms.ensures)

pub returns-in-Graph : goal.returns-in-Graph
returns-in-Graph c =
    let ks = c.self.inside.stored.items in let places = c.self.inside.places in let n = c.args.number in
    let lt : n < length ks = omega (arith, c.requires, ap length c.self.view_is, length-map ks (entry_at places)) in
    let there = here ks n c.index.result.now lt c.index.ensures ∙ ap Some c.in-Graph.is in
    ap (λ l. slice_get l n) (sym c.self.view_is) ∙ get_shown ks n (stored.Graph c.in-Graph.nodes c.in-Graph.edges) places there ∙ ap (λ l. Some (kind.Graph c.in-Graph.nodes l)) (sym c.deref.ensures)
