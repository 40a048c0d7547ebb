-- What walks spell.
use Rattle.std.proofs.Common.{◌≡◌, ◌≢◌, ℕ, ◌-◌, ◌<◌, List, [], ◌∷◌, Option, Some, None, slice_get, refl, sym, ap, ◌∙◌, subst, arith, append_assoc}
use Rattle.std.proofs.lemmas.List.{append-nil}
use Rattle.fill_arena.specs.Contents.{In, SomeIn}
use Rattle.fill_arena.specs.Order.{IsTopological}
use Rattle.fill_arena.specs.WellMade.{Path}
use Rattle.fill_arena.specs.declared.entry.Edge.{Edge}
use Rattle.fill_doubt.specs.Walks.{joined, Spells, Reads, Differs}

-- edges that lead on within the nodes, in their order, each with an answer and each node on a walk
pub record AreFine (G : Edge → Option (List ℕ) → Type 0) (nodes : ℕ) (edges : List Edge) : Type 0 where
  pub some : 0 < nodes
  pub onward : (k : ℕ) (e : Edge) → slice_get edges k ≡ Some e → e.from < e.to
  pub within : (k : ℕ) (e : Edge) → slice_get edges k ≡ Some e → e.to < nodes
  pub answers : (k : ℕ) (e : Edge) → slice_get edges k ≡ Some e → (v : Option (List ℕ)) × G e v
  pub from_first : (m : ℕ) → m < nodes → (path : List Edge) × Path edges 0 path m
  pub to_last : (m : ℕ) → m < nodes → (path : List Edge) × Path edges m path (nodes - 1)
  pub ordered : IsTopological edges

pub joined_none : (u : Option (List ℕ)) → joined u None ≡ None
joined_none None = refl
joined_none (Some a) = refl

joined_nil : (u : Option (List ℕ)) → joined u (Some []) ≡ u
joined_nil None = refl
joined_nil (Some a) = ap Some (append-nil a)

nil_joined : (u : Option (List ℕ)) → joined (Some []) u ≡ u
nil_joined None = refl
nil_joined (Some a) = refl

joined_assoc : (a b c : Option (List ℕ)) → joined (joined a b) c ≡ joined a (joined b c)
joined_assoc None b c = refl
joined_assoc (Some a) None c = refl
joined_assoc (Some a) (Some b) None = refl
joined_assoc (Some a) (Some b) (Some c) = ap Some (append_assoc a b c)

module _ (G : Edge → Option (List ℕ) → Type 0) (edges : List Edge) where
  pub spells_append : (p q : List Edge) (a b c : ℕ) (u v : Option (List ℕ)) → Spells G edges p a b u → Spells G edges q b c v → Reads G edges a c (joined u v)
  spells_append [] q a b c u v s t =
      let e : joined u v ≡ v = ap (λ x. joined x v) s.1 ∙ nil_joined v in
      let P : ℕ → Type 0 = λ n. Spells G edges q n c v in
      (q, subst (λ x. Spells G edges q a c x) (sym e) (subst P (sym s.0) t))
  spells_append (e ∷ p) q a b c u v s t =
      let r = spells_append p q e.to b c s.2.1 v s.2.3 t in
      (e ∷ r.0, (s.0, s.1, (s.2.0, joined s.2.1 v, s.2.2, r.1, ap (λ x. joined x v) s.2.4 ∙ joined_assoc s.2.0 s.2.1 v)))

  pub reads_append : (a b c : ℕ) (u v : Option (List ℕ)) → Reads G edges a b u → Reads G edges b c v → Reads G edges a c (joined u v)
  reads_append a b c u v s t = spells_append s.0 t.0 a b c u v s.1 t.1

  pub reads_edge : (e : Edge) (v : Option (List ℕ)) → In e edges → G e v → Reads G edges e.from e.to v
  reads_edge e v i g = (e ∷ [], (i, refl, (v, Some [], g, (refl, refl), sym (joined_nil v))))

  -- every path can be read
  path_reads : ((k : ℕ) (e : Edge) → slice_get edges k ≡ Some e → (v : Option (List ℕ)) × G e v) → (p : List Edge) (a b : ℕ) → Path edges a p b → (v : Option (List ℕ)) × Reads G edges a b v
  path_reads some [] a b h = (Some [], ([], (h, refl)))
  path_reads some (e ∷ p) a b h =
      let g = some h.0.0 e h.0.1 in
      let r = path_reads some p e.to b h.2 in
      (joined g.0 r.0, (e ∷ r.1.0, (h.0, h.1, (g.0, r.0, g.1, r.1.1, refl))))

  -- two different answers, of which at least one is a text
  pub differs_some : (last : ℕ) → Differs G edges last → (t : List ℕ) × Reads G edges 0 last (Some t)
  differs_some last d = go d.0 d.1 d.2 d.3 d.4
    where
      go : (a b : Option (List ℕ)) → Reads G edges 0 last a → Reads G edges 0 last b → a ≢ b → (t : List ℕ) × Reads G edges 0 last (Some t)
      go (Some t) b r q n = (t, r)
      go None (Some t) r q n = (t, q)
      go None None r q n = absurd (n refl)

  module _ (nodes : ℕ) (fine : AreFine G nodes edges) where
    pub first_reads : (n : ℕ) → n < nodes → (v : Option (List ℕ)) × Reads G edges 0 n v
    first_reads n h = let p = fine.from_first n h in path_reads fine.answers p.0 0 n p.1

    pub last_reads : (n : ℕ) → n < nodes → (v : Option (List ℕ)) × Reads G edges n (nodes - 1) v
    last_reads n h = let p = fine.to_last n h in path_reads fine.answers p.0 n (nodes - 1) p.1

    -- where an atom has no value, some program has none
    pub lacks_none : SomeIn (λ e. G e None) edges → Reads G edges 0 (nodes - 1) None
    lacks_none s =
        let e = s.0 in
        let lt = fine.onward s.1.0 e s.1.1 in
        let w = fine.within s.1.0 e s.1.1 in
        let a = first_reads e.from (omega arith) in
        let b = last_reads e.to w in
        let r = reads_append 0 e.from (nodes - 1) a.0 (joined None b.0) a.1 (reads_append e.from e.to (nodes - 1) None b.0 (reads_edge e None s.1 s.2) b.1) in
        subst (λ v. Reads G edges 0 (nodes - 1) v) (joined_none a.0) r

    pub lack_differs : SomeIn (λ e. G e None) edges → (t : List ℕ) → Reads G edges 0 (nodes - 1) (Some t) → Differs G edges (nodes - 1)
    lack_differs s t r = (Some t, None, r, lacks_none s, λ e. cc)
