use Rattle.std.proofs.Common.{◌≡◌, ◌≢◌, ℕ, ◌<◌, List, length, Some, slice_get, get_or, Vec, Global, sym, subst, ◌∙◌, arith}
use Rattle.std.proofs.Math.ListN.{set, length-set}
use Rattle.fill_tokens.specs.declared.prices.Prices.{Prices}
use Rattle.fill_tree.specs.Cost.{atom_cost, program_cost}
use Rattle.fill_tree.specs.Order.{atom_cmp, atoms_cmp}
use Rattle.fill_tree.specs.Tree.{AtomTree, Atoms}
use Rattle.fill_arena.specs.Stands.{AtomStands, Walks}
use Rattle.fill_arena.specs.declared.entry.Edge.{Edge}
use Rattle.fill_arena.specs.declared.entry.Entry.{Entry}
use Rattle.fill_arena.proofs.Scan.{here}
use Rattle.fill_arena.proofs.Items.{set_here, set_apart}
use Rattle.fill_best.specs.Cheapest.{AreCheapest}
use Rattle.fill_best.specs.declared.costed.Costed.{Costed}
use Rattle.fill_best.proofs.Walking.{edge_cheap, edge_step}
use Rattle.fill_best.proofs.graph.take_edge.Goals as goal

-- what was taken out of the table is what stood there, and what stands elsewhere is as before
taken_out : {A : Type 0} (old : List A) (from : ℕ) (read taken : A) → from < length old → read ≡ get_or old from read → taken ≡ read → slice_get old from ≡ Some taken
taken_out old from read taken lt at is = subst (λ v. slice_get old from ≡ Some v) (sym is) (here old from read lt at)

left_there : {A : Type 0} (old : List A) (from to : ℕ) (put read : A) → from < to → to < length old → read ≡ get_or (set old from put) to read → slice_get old to ≡ Some read
left_there old from to put read onward within at =
    let apart : to ≢ from = λ e. omega arith in
    let long : to < length (set old from put) = simp length-set within in
    sym (set_apart old from put to apart) ∙ here (set old from put) to read long at

atoms_slice : (prices : Prices) (c : List Entry) (s k : ℕ) (list held : Vec (Costed AtomTree) Global) (slice : List (Costed AtomTree)) → slice ≡ held.items → held ≡ list →
    AreCheapest (atom_cost prices) atom_cmp (AtomStands c s) k list.items → AreCheapest (atom_cost prices) atom_cmp (AtomStands c s) k slice
atoms_slice prices c s k list held slice e f first =
    subst (AreCheapest (atom_cost prices) atom_cmp (AtomStands c s) k) (sym e) (subst (λ (v : Vec (Costed AtomTree) Global). AreCheapest (atom_cost prices) atom_cmp (AtomStands c s) k v.items) (sym f) first)

rests_slice : (prices : Prices) (c : List Entry) (edges : List Edge) (last n k : ℕ) (list slice : List (Costed Atoms)) → slice ≡ list →
    AreCheapest (program_cost prices) atoms_cmp (λ p. Walks p c edges last n) k list → AreCheapest (program_cost prices) atoms_cmp (λ p. Walks p c edges last n) k slice
rests_slice prices c edges last n k list slice e first = subst (AreCheapest (program_cost prices) atoms_cmp (λ p. Walks p c edges last n) k) (sym e) first

pub put_products-requires-clause-rising : goal.put_products-requires-clause-rising
put_products-requires-clause-rising c =
    let old = c.args.rests.now.items in
    let e = c.args.edge in
    let h = c.requires.cheap in
    let ranking = c.replace-ranking.result in
    let onward = c.requires.onward in
    let within = c.requires.within in
    (h.2.each e.from ranking (taken_out old e.from c.index_mut.result.now ranking (omega arith) c.index_mut.ensures.value c.replace-ranking.ensures.value)).rising

pub put_products-requires-clause-few : goal.put_products-requires-clause-few
put_products-requires-clause-few c =
    let old = c.args.rests.now.items in
    let e = c.args.edge in
    let h = c.requires.cheap in
    let ranking = c.replace-ranking.result in
    let onward = c.requires.onward in
    let within = c.requires.within in
    (h.2.each e.from ranking (taken_out old e.from c.index_mut.result.now ranking (omega arith) c.index_mut.ensures.value c.replace-ranking.ensures.value)).few

pub put_products-requires-clause-seconds : goal.put_products-requires-clause-seconds
put_products-requires-clause-seconds c =
    let old = c.args.rests.now.items in
    let e = c.args.edge in
    let h = c.requires.cheap in
    let next = c.index.result.now in
    let there = left_there old e.from e.to c.replace-ranking.new.dest next c.requires.onward c.requires.within c.index.ensures in
    (rests_slice c.args.prices.now c.args.arena.now h.0 h.1 e.to c.args.limit next.items c.as_slice-2.result.now c.as_slice-2.ensures.value (h.2.each e.to next there)).rising

pub put_products-requires-clause-cheap : goal.put_products-requires-clause-cheap
put_products-requires-clause-cheap c =
    let arena = c.args.arena.now in
    let old = c.args.rests.now.items in
    let e = c.args.edge in
    let k = c.args.limit in
    let h = c.requires.cheap in
    let next = c.index.result.now in
    let there = left_there old e.from e.to c.replace-ranking.new.dest next c.requires.onward c.requires.within c.index.ensures in
    let seconds = rests_slice c.args.prices.now arena h.0 h.1 e.to k next.items c.as_slice-2.result.now c.as_slice-2.ensures.value (h.2.each e.to next there) in
    let firsts = atoms_slice c.args.prices.now arena e.atoms k c.in_ok-atoms.atoms.value c.deref.result.now c.as_slice.result.now c.as_slice.ensures.value c.deref.ensures c.in_ok-atoms.ensures.first in
    edge_cheap c.args.prices.now arena e h.0 h.1 k c.as_slice.result.now c.as_slice-2.result.now firsts seconds h.3

pub returns-clause-first : goal.returns-clause-first
returns-clause-first c others last first are =
    let arena = c.args.arena.now in
    let old = c.args.rests.now.items in
    let e = c.args.edge in
    let k = c.args.limit in
    let empty = c.replace-ranking.new.dest in
    let ranking = c.replace-ranking.result in
    let made = c.put_products.new.ranking in
    let next = c.index.result.now in
    let onward = c.requires.onward in
    let within = c.requires.within in
    let lt : e.from < length old = omega arith in
    let long : e.from < length (set old e.from empty) = simp length-set lt in
    let there = left_there old e.from e.to empty next onward within c.index.ensures in
    let seconds = rests_slice c.args.prices.now arena others last e.to k next.items c.as_slice-2.result.now c.as_slice-2.ensures.value (are.each e.to next there) in
    let firsts = atoms_slice c.args.prices.now arena e.atoms k c.in_ok-atoms.atoms.value c.deref.result.now c.as_slice.result.now c.as_slice.ensures.value c.deref.ensures c.in_ok-atoms.ensures.first in
    edge_step c.args.prices.now arena e others last k c.as_slice.result.now c.as_slice-2.result.now firsts seconds first old (set (set old e.from empty) e.from made) ranking made are
    (taken_out old e.from c.index_mut.result.now ranking lt c.index_mut.ensures.value c.replace-ranking.ensures.value) c.in_ok-put_products.ensures
    (set_here (set old e.from empty) e.from made long) (λ n apart. set_apart (set old e.from empty) e.from made n apart ∙ set_apart old e.from empty n apart)
