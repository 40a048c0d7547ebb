-- What the search for the least rest from the first node on tells of a graph's programs.
use Rattle.std.proofs.Common.{◌≡◌, inl, inr, Global, ℕ, ◌-◌, ◌^◌, ◌<◌, ◌≤◌, List, Option, None, Some, slice_get, sym, ap, subst, ◌∙◌, arith}
use Rattle.std.proofs.lemmas.Bool.{cases_lt}
use Rattle.std.specs.Option.{IfSome, MatchOption}
use Rattle.std.specs.declared.rc.Rc.{Rc}
use Rattle.std.specs.declared.cmp.Ordering.{Ordering}
use Rattle.std.specs.declared.cmp.Ordering.TheVariants.{Less}
use Rattle.std.specs.Ordering.{ordering_reverse}
use Rattle.fill_text.specs.Orders.{AtMost}
use Rattle.fill_tokens.specs.Prices.{ArePrices}
use Rattle.fill_tree.specs.Cost.{program_cost}
use Rattle.fill_tree.specs.Meaning.{program_tree}
use Rattle.fill_tree.specs.Order.{program_cmp}
use Rattle.fill_tree.specs.Tree.{Atoms}
use Rattle.fill_tree.specs.Value.{ProgramIs}
use Rattle.fill_tree.proofs.ProgramOrder.{program_antisymm}
use Rattle.fill_arena.specs.Stands.{ProgramStands, Walks}
use Rattle.fill_arena.specs.WellMade.{IsWellMade}
use Rattle.fill_arena.proofs.Costs.{rest_present}
use Rattle.fill_arena.specs.declared.entry.Edge.{Edge}
use Rattle.fill_arena.specs.declared.entry.Entry.TheVariants.{Graph}
use Rattle.fill_arena.specs.Best.{IsBest}
use Rattle.fill_object.specs.Chains.{IsFound, IsLeastWithin}
use Rattle.fill_object.specs.Objector.{AllDearer, Answers, IsObjection}
use Rattle.fill_object.specs.Pieces.{text_or_empty}
use Rattle.fill_object.specs.Rests.{IsProgramOf}
use Rattle.fill_object.specs.Wants.{Agrees, RestAgrees, wanted_first}
use Rattle.fill_tree.specs.declared.chain.Chain.{Chain}
use Rattle.fill_object.specs.declared.chain.Least.{Least}
use Rattle.fill_object.specs.declared.chain.Least.TheVariants.{Absent, Dearer, Found}
use Rattle.fill_object.specs.declared.graph.Objection.{Objection}
use Rattle.fill_object.specs.declared.row.OnRow.{OnRow}
use Rattle.fill_object.specs.declared.wanted.Wanted.{Wanted}
use Rattle.fill_object.proofs.Wanting.{agrees_first, first_agrees}

not_before : (o q : Ordering) → q ≡ ordering_reverse o → AtMost o → ¬ (q ≡ Less)
not_before o q e (inl h) less = cc
not_before o q e (inr h) less = cc

module _ (on : OnRow) (g nodes : ℕ) (edges : List Edge) (told : Option (List ℕ)) (answer : List ℕ) (w : Wanted) (is : slice_get on.arena.now g ≡ Some (Graph nodes edges))
    (first : w ≡ wanted_first told) (chars : answer ≡ text_or_empty told) where
  abbrev Value : Atoms → List ℕ → Type 0
  Value p = ProgramIs on.sheet.now on.tables.now on.row p

  answers_of : (p : Atoms) → RestAgrees on answer w p → Answers on.sheet.now on.tables.now on.row told p
  answers_of p h = agrees_first (Value p) told (subst (λ t. Agrees t (wanted_first told) (Value p)) chars (subst (λ v. Agrees answer v (Value p)) first h))

  agrees_of : (p : Atoms) → Answers on.sheet.now on.tables.now on.row told p → RestAgrees on answer w p
  agrees_of p h = subst (λ v. Agrees answer v (Value p)) (sym first) (subst (λ t. Agrees t (wanted_first told) (Value p)) (sym chars) (first_agrees (Value p) told h))

  walk_of : (p : Atoms) → ProgramStands on.arena.now g p → Walks p on.arena.now edges (nodes - 1) 0
  walk_of p h =
      let there = h.2 in
      let n : h.0 ≡ nodes = cc in
      let es : h.1 ≡ edges = cc in
      subst (λ m. Walks p on.arena.now edges (m - 1) 0) n (subst (λ xs. Walks p on.arena.now xs (h.0 - 1) 0) es h.3)

  stands_of : (p : Atoms) → Walks p on.arena.now edges (nodes - 1) 0 → ProgramStands on.arena.now g p
  stands_of p walk = (nodes, edges, is, walk)

  abbrev FirstWalks : Atoms → Type 0
  FirstWalks p = Walks p on.arena.now edges (nodes - 1) 0

  abbrev Answered : Atoms → Type 0
  Answered p = Answers on.sheet.now on.tables.now on.row told p

  -- what holds of the rests from the first node on holds of the graph's programs
  pub of_programs : (limit : ℕ) (o : Least) → IsLeastWithin on.prices.now limit (λ p. Walks p on.arena.now edges (nodes - 1) 0) (RestAgrees on answer w) o →
      IsLeastWithin on.prices.now limit (ProgramStands on.arena.now g) (Answers on.sheet.now on.tables.now on.row told) o
  of_programs limit Absent h = λ p stands few. answers_of p (h p (walk_of p stands) few)
  of_programs limit Dearer h =
      ((h.0.0, stands_of h.0.0 h.0.1, λ a. h.0.2 (agrees_of h.0.0 a)), λ p stands apart. h.1 p (walk_of p stands) (λ r. apart (answers_of p r)))
  of_programs limit (Found x) h = (
    h.0,
    h.1,
    record {
      has = (stands_of (program_tree x.value.atoms) h.2.has.0, λ a. h.2.has.1 (agrees_of (program_tree x.value.atoms) a));
      least = λ q o. h.2.least q (walk_of q o.0, λ r. o.1 (answers_of q r));
    },
  )

-- what was found of a graph's programs
module _ (on : OnRow) (g : ℕ) (told : Option (List ℕ)) where
  abbrev Stands : Atoms → Type 0
  Stands p = ProgramStands on.arena.now g p

  abbrev Answering : Atoms → Type 0
  Answering p = Answers on.sheet.now on.tables.now on.row told p

  -- no program costs more than the greatest number of 64 bits
  few : IsWellMade on.arena.now → ArePrices on.prices.now → (p : Atoms) → ProgramStands on.arena.now g p → program_cost on.prices.now p ≤ 18446744073709551615
  few made small p h = let lt = rest_present on.prices.now small on.arena.now made g h.0 h.1 (h.0 - 1) 0 p h.2 h.3 in omega arith

  pub none_dearer : IsWellMade on.arena.now → ArePrices on.prices.now → (o : Least) → o ≡ Dearer →
      IsLeastWithin on.prices.now 18446744073709551615 (ProgramStands on.arena.now g) (Answers on.sheet.now on.tables.now on.row told) o → ⊥
  none_dearer made small o e h =
      let dear = subst (IsLeastWithin on.prices.now 18446744073709551615 Stands Answering) e h in
      let lt = dear.1 dear.0.0 dear.0.1 dear.0.2 in
      let le = few made small dear.0.0 dear.0.1 in
      absurd (omega arith)

  pub all_answer : IsWellMade on.arena.now → ArePrices on.prices.now → (o : Least) → o ≡ Absent →
      IsLeastWithin on.prices.now 18446744073709551615 (ProgramStands on.arena.now g) (Answers on.sheet.now on.tables.now on.row told) o →
      (p : Atoms) → ProgramStands on.arena.now g p → Answers on.sheet.now on.tables.now on.row told p
  all_answer made small o e h p stands = subst (IsLeastWithin on.prices.now 18446744073709551615 Stands Answering) e h p stands (few made small p stands)

  dear_of : (limit : ℕ) (o : Least) → IsLeastWithin on.prices.now limit (ProgramStands on.arena.now g) (Answers on.sheet.now on.tables.now on.row told) o → (IsFound o → ⊥) →
      AllDearer on.prices.now on.arena.now g on.sheet.now on.tables.now on.row told limit
  dear_of limit Absent h none = λ p o. elim (cases_lt limit (program_cost on.prices.now p)) [ inl lt ↦ lt | inr ge ↦ absurd (o.otherwise (h p o.stands ge)) ]
  dear_of limit Dearer h none = λ p o. h.1 p o.stands o.otherwise
  dear_of limit (Found x) h none = absurd (none tt)

  pub dear_absent : (limit : ℕ) (o : Least) → o ≡ Absent → IsLeastWithin on.prices.now limit (ProgramStands on.arena.now g) (Answers on.sheet.now on.tables.now on.row told) o →
      AllDearer on.prices.now on.arena.now g on.sheet.now on.tables.now on.row told limit
  dear_absent limit o e h = dear_of limit o h (subst (λ (v : Least). IsFound v → ⊥) (sym e) (λ no. no))

  pub dear_dearer : (limit : ℕ) (o : Least) → o ≡ Dearer → IsLeastWithin on.prices.now limit (ProgramStands on.arena.now g) (Answers on.sheet.now on.tables.now on.row told) o →
      AllDearer on.prices.now on.arena.now g on.sheet.now on.tables.now on.row told limit
  dear_dearer limit o e h = dear_of limit o h (subst (λ (v : Least). IsFound v → ⊥) (sym e) (λ no. no))

  pub objection : (limit : ℕ) (o : Least) (x : Rc Chain Global) → o ≡ Found x → (held : Chain) → held ≡ x.value →
      IsLeastWithin on.prices.now limit (ProgramStands on.arena.now g) (Answers on.sheet.now on.tables.now on.row told) o →
      (y : Objection) → IsProgramOf on held.atoms (Some y) → IsObjection on.prices.now on.arena.now g on.sheet.now on.tables.now on.row told y
  objection limit o x e held same h y made =
      let best = (subst (IsLeastWithin on.prices.now limit Stands Answering) e h).2 in
      let tree : program_tree y.program ≡ program_tree x.value.atoms = made.0 ∙ ap (λ (z : Chain). program_tree z.atoms) same in
      let mine = subst (IsBest (program_cmp on.prices.now) (λ p. Stands p × ¬ (Answering p))) (sym tree) best in
      record {
        least = record {
          has = record { stands = mine.has.0; otherwise = mine.has.1 };
          least = λ q b.
              not_before (program_cmp on.prices.now (program_tree y.program) q) (program_cmp on.prices.now q (program_tree y.program)) (program_antisymm on.prices.now q (program_tree y.program))
              (mine.least q (b.stands, b.otherwise));
        };
        value = made.1;
      }

  -- the program of the chain that was found, which is there
  pub told_objection : (limit : ℕ) (o : Least) (x : Rc Chain Global) → o ≡ Found x → (held : Chain) → held ≡ x.value →
      IsLeastWithin on.prices.now limit (ProgramStands on.arena.now g) (Answers on.sheet.now on.tables.now on.row told) o →
      (none : Type 0) (found : Option Objection) → IsProgramOf on held.atoms found → MatchOption found none (IsObjection on.prices.now on.arena.now g on.sheet.now on.tables.now on.row told)
  told_objection limit o x e held same h none None made = absurd made
  told_objection limit o x e held same h none (Some y) made = objection limit o x e held same h y made

  -- it costs a number of 64 bits
  pub few_objection : (limit : ℕ) → limit < 2 ^ 64 → (o : Least) (x : Rc Chain Global) → o ≡ Found x → (held : Chain) → held ≡ x.value →
      IsLeastWithin on.prices.now limit (ProgramStands on.arena.now g) (Answers on.sheet.now on.tables.now on.row told) o →
      (found : Option Objection) → IsProgramOf on held.atoms found → IfSome found (λ y. program_cost on.prices.now (program_tree y.program) < 2 ^ 64)
  few_objection limit bound o x e held same h None made = absurd made
  few_objection limit bound o x e held same h (Some y) made =
      let own = subst (IsLeastWithin on.prices.now limit Stands Answering) e h in
      let tree : program_tree y.program ≡ program_tree x.value.atoms = made.0 ∙ ap (λ (z : Chain). program_tree z.atoms) same in
      let cost : program_cost on.prices.now (program_tree x.value.atoms) < 2 ^ 64 = (let is = own.0 in let le = own.1 in omega arith) in
      subst (λ (t : Atoms). program_cost on.prices.now t < 2 ^ 64) (sym tree) cost
