-- The least rest along the edges from a node, within a limit of its cost.
use Rattle.std.proofs.Common.{◌≡◌, ◌⊎◌, Vec, Global, ℕ, ◌+◌, ◌<◌, ◌≤◌, List, Some, slice_get, inl, inr, refl, sym, ap, subst, arith}
use Rattle.std.specs.declared.rc.Rc.{Rc}
use Rattle.std.proofs.lemmas.Bool.{cases_lt}
use Rattle.fill_text.specs.Orders.{AtMost}
use Rattle.fill_tree.specs.Cost.{program_cost}
use Rattle.fill_tree.specs.Meaning.{atom_tree, program_tree}
use Rattle.fill_tree.specs.Order.{program_cmp}
use Rattle.fill_tree.specs.Tree.{Atoms, end, more}
use Rattle.fill_tree.specs.Value.{AtomIs, ProgramIs}
use Rattle.fill_arena.specs.Contents.{SomeIn}
use Rattle.fill_arena.specs.Stands.{AtomStands}
use Rattle.fill_arena.specs.declared.entry.Edge.{Edge}
use Rattle.fill_arena.specs.Best.{IsBest}
use Rattle.fill_object.specs.Bounds.{number_at}
use Rattle.fill_object.specs.Chains.{IsCopy, IsFound, IsLeastWithin, IsLesser, IsNoDearer, limit_of}
use Rattle.fill_object.specs.Kinds.{atoms_on}
use Rattle.fill_object.specs.Leasts.{AreLeasts}
use Rattle.fill_object.specs.Outs.{NoneOutFrom}
use Rattle.fill_object.specs.Rests.{AreRests, IsAlong, IsEnd, IsKnown, IsSearch, IsThen, RestStands}
use Rattle.fill_object.specs.Wants.{RestAgrees}
use Rattle.fill_object.specs.declared.chain.Least.{Least}
use Rattle.fill_tree.specs.declared.chain.Chain.{Chain}
use Rattle.fill_object.specs.declared.chain.Least.TheVariants.{Absent, Found}
use Rattle.fill_object.specs.declared.row.OnRow.{OnRow}
use Rattle.fill_object.specs.declared.rests.Rests.{Rests}
use Rattle.fill_object.specs.declared.search.Search.{Search}
use Rattle.fill_object.specs.declared.valued.ValuedAtom.{ValuedAtom}
use Rattle.fill_object.specs.declared.wanted.Wanted.{Wanted}
use Rattle.fill_object.proofs.Alike.{same_value, joined_alike}
use Rattle.fill_object.proofs.CostLaws.{walk_cost}
use Rattle.fill_object.proofs.Orders.{program-at_most}
use Rattle.fill_object.proofs.Wanting.{agrees_alike}
use Rattle.fill_object.proofs.Within.{copied_found, copied_within, no_dearer, program-itself, within_lesser, within_same, within_through}

-- the least of a set's atoms by their texts before rests
module _ (s : Search) (limit : ℕ) (w : Wanted) (T : Atoms → Type 0) (b : ℕ) (xs : List ValuedAtom) (are : AreLeasts (atoms_on s.on) (AtomStands s.on.arena.now b) xs) where
  abbrev AsSaid : Atoms → Type 0
  AsSaid = RestAgrees s.on s.answer.now w

  along_from : (p : Atoms) → SomeIn (λ x. IsThen (λ a. a ≡ atom_tree x.atom) T p) xs → IsThen (AtomStands s.on.arena.now b) T p
  along_from end h = absurd h.2
  along_from (more a q) h = (subst (AtomStands s.on.arena.now b) (sym h.2.0) (are.each h.1.0 h.0 h.1.1).0, h.2.1)

  along_to : (p : Atoms) → IsThen (AtomStands s.on.arena.now b) T p →
      (q : Atoms) × SomeIn (λ x. IsThen (λ a. a ≡ atom_tree x.atom) T q) xs × AtMost (program_cmp s.on.prices.now q p) × (AsSaid q → AsSaid p)
  along_to end h = absurd h
  along_to (more a q) h =
      let found = are.least a h.0 in
      let x = found.0 in
      let own = atom_tree x.atom in
      let right = (are.each found.1.0 x found.1.1).1 in
      let First = AtomIs s.on.sheet.now s.on.tables.now s.on.row own in
      let Second = AtomIs s.on.sheet.now s.on.tables.now s.on.row a in
      let Rest = ProgramIs s.on.sheet.now s.on.tables.now s.on.row q in (
        more (atom_tree x.atom) q,
        (x, found.1, (refl, h.1)),
        program-at_most s.on.prices.now own a q q found.2.0 (program-itself s.on.prices.now q),
        agrees_alike s.answer.now w _ _ (joined_alike First Second Rest (same_value First Second x.text right found.2.1)),
      )

  pub along_all : (o : Least) → IsLeastWithin s.on.prices.now limit (λ p. SomeIn (λ x. IsThen (λ a. a ≡ atom_tree x.atom) T p) xs) AsSaid o → IsLeastWithin s.on.prices.now limit (IsThen (AtomStands s.on.arena.now b) T) AsSaid o
  along_all o h = within_through s.on.prices.now limit (λ p. SomeIn (λ x. IsThen (λ a. a ≡ atom_tree x.atom) T p) xs) (IsThen (AtomStands s.on.arena.now b) T) AsSaid along_from along_to o h

-- along one edge from the node
module _ (s : Search) (n : ℕ) (e : Edge) (limit : ℕ) (w : Wanted) (from : e.from ≡ n) where
  pub along_done : (xs : List ValuedAtom) → AreLeasts (atoms_on s.on) (AtomStands s.on.arena.now e.atoms) xs → (o : Least) →
      IsLeastWithin s.on.prices.now limit (λ p. SomeIn (λ x. IsThen (λ a. a ≡ atom_tree x.atom) (RestStands s e.to) p) xs) (RestAgrees s.on s.answer.now w) o →
      IsLeastWithin s.on.prices.now limit (IsAlong s n e) (RestAgrees s.on s.answer.now w) o
  along_done xs are o h =
      within_same s.on.prices.now limit (IsThen (AtomStands s.on.arena.now e.atoms) (RestStands s e.to)) (IsAlong s n e) (RestAgrees s.on s.answer.now w) (λ p t. (from, t)) (λ p t. t.1) o
      (along_all s limit w (RestStands s e.to) e.atoms xs are o h)

-- an edge that is no edge from the node
pub along_other : (s : Search) (n : ℕ) (e : Edge) (limit : ℕ) (w : Wanted) → ¬ (e.from ≡ n) → IsLeastWithin s.on.prices.now limit (IsAlong s n e) (RestAgrees s.on s.answer.now w) Absent
along_other s n e limit w apart p h few = absurd (apart h.0)

-- an edge along which all is dearer
module _ (s : Search) (is : IsSearch s) (n i : ℕ) (e : Edge) (at : slice_get s.edges.now i ≡ Some e) (limit : ℕ) (w : Wanted) where
  along_costs : (p : Atoms) → IsAlong s n e p → number_at s.guide.now.bounds.edges.items i + number_at s.guide.now.bounds.rests.items e.to ≤ program_cost s.on.prices.now p
  along_costs end h = absurd h.1
  along_costs (more a q) h =
      let own = is.guide.bounds.along.each i e at a h.1.0 in
      let rest = walk_cost s.on.prices.now s.on.arena.now s.edges.now s.last s.guide.now.bounds is.guide.bounds q e.to h.1.1 in
      omega arith

  pub along_dear : (bound : ℕ) → bound ≤ number_at s.guide.now.bounds.edges.items i + number_at s.guide.now.bounds.rests.items e.to → limit < bound →
      IsLeastWithin s.on.prices.now limit (IsAlong s n e) (RestAgrees s.on s.answer.now w) Absent
  along_dear bound le dear p h few = let cost = along_costs p h in absurd (omega arith)

-- a node from which all is dearer
pub rest_dear : (s : Search) → IsSearch s → (n : ℕ) (limit : ℕ) (w : Wanted) → limit < number_at s.guide.now.bounds.rests.items n →
    IsLeastWithin s.on.prices.now limit (RestStands s n) (RestAgrees s.on s.answer.now w) Absent
rest_dear s is n limit w dear p h few =
    let cost = walk_cost s.on.prices.now s.on.arena.now s.edges.now s.last s.guide.now.bounds is.guide.bounds p n h in
    absurd (omega arith)

-- a rest ends at once, or goes on along an edge
module _ (s : Search) (n : ℕ) (limit : ℕ) (A : Atoms → Type 0) where
  -- at once, or along an edge from this place on
  abbrev pub Past : ℕ → Atoms → Type 0
  Past left p = IsEnd s n p ⊎ ((k : ℕ) × (e : Edge) × (left ≤ k) × (slice_get s.edges.now k ≡ Some e) × IsAlong s n e p)

  pub past_none : (left : ℕ) → NoneOutFrom s.edges.now n left → (o : Least) → IsLeastWithin s.on.prices.now limit (IsEnd s n) A o → IsLeastWithin s.on.prices.now limit (Past left) A o
  past_none left none o h = within_same s.on.prices.now limit (IsEnd s n) (Past left) A (λ p w. inl w)
      (λ p u. elim u [ inl w ↦ w | inr t ↦ let le = t.2 in let lt = none t.0 t.1 t.3 t.4.0 in absurd (omega arith) ]) o h

  split_past : (i left : ℕ) (e : Edge) → slice_get s.edges.now i ≡ Some e → ((k : ℕ) (f : Edge) → slice_get s.edges.now k ≡ Some f → f.from ≡ n → k < i → k < left) →
      (p : Atoms) → Past left p → Past (i + 1) p ⊎ IsAlong s n e p
  split_past i left e at none p (inl w) = inl (inl w)
  split_past i left e at none p (inr t) = elim (cases_lt i t.0) [
    | inl past ↦ inl (inr (t.0, t.1, omega arith, t.3, t.4))
    | inr before ↦ elim (cases_lt t.0 i) [
      | inl less ↦ let le = t.2 in let lt = none t.0 t.1 t.3 t.4.0 less in absurd (omega arith)
      | inr least ↦
          let here : t.0 ≡ i = omega arith in
          let moved : slice_get s.edges.now i ≡ Some t.1 = subst (λ j. slice_get s.edges.now j ≡ Some t.1) here t.3 in
          let one : t.1 ≡ e = cc in
          inr (subst (λ f. IsAlong s n f p) one t.4)
    ]
  ]

  wider : (i left : ℕ) → left ≤ i → (p : Atoms) → Past (i + 1) p → Past left p
  wider i left le p (inl w) = inl w
  wider i left le p (inr t) = let lt = t.2 in inr (t.0, t.1, omega arith, t.3, t.4)

  pub past_more : (i left : ℕ) (e : Edge) → left ≤ i → slice_get s.edges.now i ≡ Some e → ((k : ℕ) (f : Edge) → slice_get s.edges.now k ≡ Some f → f.from ≡ n → k < i → k < left) →
      (a b r : Least) → IsLesser a b r → IsLeastWithin s.on.prices.now limit (Past (i + 1)) A a → IsLeastWithin s.on.prices.now (limit_of a limit) (IsAlong s n e) A b →
      IsLeastWithin s.on.prices.now limit (Past left) A r
  past_more i left e le at none a b r is h k =
      within_lesser s.on.prices.now limit (Past (i + 1)) (IsAlong s n e) (Past left) A (split_past i left e at none) (wider i left le) (λ p f. inr (i, e, le, at, f)) a b r is h k

  rest_past : (p : Atoms) → RestStands s n p → Past 0 p
  rest_past end h = inl h
  rest_past (more a q) h = inr (h.1.0, h.0, omega arith, h.1.1, (h.2.0, (h.2.1, h.2.2)))

  past_rest : (p : Atoms) → Past 0 p → RestStands s n p
  past_rest end (inl h) = h
  past_rest end (inr h) = absurd h.4.1
  past_rest (more a q) (inl h) = absurd h
  past_rest (more a q) (inr h) = (h.1, (h.0, h.3), (h.4.0, h.4.1.0, h.4.1.1))

  pub past_done : (o : Least) → IsLeastWithin s.on.prices.now limit (Past 0) A o → IsLeastWithin s.on.prices.now limit (RestStands s n) A o
  past_done o h = within_same s.on.prices.now limit (Past 0) (RestStands s n) A past_rest rest_past o h

  no_end : (p : Atoms) → ¬ (n ≡ s.last) → ¬ (IsEnd s n p)
  no_end end apart h = apart h
  no_end (more a q) apart h = h

  pub end_apart : ¬ (n ≡ s.last) → IsLeastWithin s.on.prices.now limit (IsEnd s n) A Absent
  end_apart apart p h few = absurd (no_end p apart h)

  pub end_agrees : A end → IsLeastWithin s.on.prices.now limit (IsEnd s n) A Absent
  end_agrees agrees end h few = agrees
  end_agrees agrees (more a q) h few = absurd h

  pub end_kept : (x : Rc Chain Global) → x.value.cost ≡ 0 → program_tree x.value.atoms ≡ end → n ≡ s.last → ¬ (A end) → IsLeastWithin s.on.prices.now limit (IsEnd s n) A (Found x)
  end_kept x cost is at apart =
      let own : program_cost s.on.prices.now (program_tree x.value.atoms) ≡ 0 = ap (program_cost s.on.prices.now) is in
      (omega arith, omega arith, subst (IsBest (program_cmp s.on.prices.now) (λ p. IsEnd s n p × ¬ (A p))) (sym is) (record { has = (at, apart); least = go }))
    where
      go : (p : Atoms) → IsEnd s n p × ¬ (A p) → AtMost (program_cmp s.on.prices.now end p)
      go end h = program-itself s.on.prices.now end
      go (more a q) h = absurd h.0

-- what is known already
pub memo_rest : (s : Search) (rests : Rests) (n : ℕ) (w : Wanted) (limit : ℕ) (o q r : Least) → AreRests s rests → IsKnown rests.entries.items n w limit o → IsCopy q o → IsNoDearer q limit r →
    IsLeastWithin s.on.prices.now limit (RestStands s n) (RestAgrees s.on s.answer.now w) r
memo_rest s rests n w limit o q r are h copy is =
    let own_rest = h.0 in
    let found = are.each h.1.0 own_rest h.1.1 in
    let le : (limit ≤ own_rest.limit) ⊎ IsFound q = elim h.5 [ inl most ↦ inl most | inr there ↦ inr (copied_found q o copy there) ] in
    no_dearer s.on.prices.now own_rest.limit limit (RestStands s n) (RestAgrees s.on s.answer.now w) q r is le
    (copied_within s.on.prices.now own_rest.limit (RestStands s n) (RestAgrees s.on s.answer.now w) q o copy
    (subst (λ m. IsLeastWithin s.on.prices.now own_rest.limit (RestStands s m) (RestAgrees s.on s.answer.now w) o) h.2
    (subst (λ v. IsLeastWithin s.on.prices.now own_rest.limit (RestStands s own_rest.node) (RestAgrees s.on s.answer.now v) o) h.3
    (subst (λ l. IsLeastWithin s.on.prices.now own_rest.limit (RestStands s own_rest.node) (RestAgrees s.on s.answer.now own_rest.wanted) l) h.4 found))))

-- the atoms that were found, as a slice
pub leasts_slice : (on : OnRow) (b : ℕ) (list held : Vec ValuedAtom Global) (slice : List ValuedAtom) → held ≡ list → slice ≡ held.items →
    AreLeasts (atoms_on on) (AtomStands on.arena.now b) list.items → AreLeasts (atoms_on on) (AtomStands on.arena.now b) slice
leasts_slice on b list held slice e f are =
    subst (AreLeasts (atoms_on on) (AtomStands on.arena.now b)) (sym f) (subst (λ (v : Vec ValuedAtom Global). AreLeasts (atoms_on on) (AtomStands on.arena.now b) v.items) (sym e) are)
