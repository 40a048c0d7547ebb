-- An arena whose entries are copied to another: copies are well made, and each entry that is copied adds one.
use Rattle.std.proofs.Common.{◌≡◌, ℕ, suc, ◌-◌, ◌<◌, ◌≤◌, ◌↔◌, ◌⊎◌, inl, inr, List, [], ◌∷◌, ◌++◌, length, Bool, Option, Some, None, slice_get, refl, sym, ap, ◌∙◌, subst, arith, length-append}
use Rattle.std.specs.List.{AllZip}
use Rattle.std.specs.Option.{IfSome}
use Rattle.std.proofs.lemmas.Bool.{cases_lt}
use Rattle.std.proofs.lemmas.List.Elements.{length_all_zip}
use Rattle.std.proofs.lemmas.Option.{slice_get_within}
use Rattle.fill_tree.specs.Tree.{Atoms}
use Rattle.fill_arena.specs.Contents.{EachIn, Extends, Interns, IsGraph}
use Rattle.fill_arena.specs.Copied.{AreCopied, AreNamed, AtomBecomes, Becomes, ConditionBecomes, EdgeBecomes, EntryBecomes, HasNew, IsMarked, OptionBecomes, SourceBecomes, Takes}
use Rattle.fill_arena.specs.Named.{IsNamed, Leads, Names, entry_names}
use Rattle.fill_arena.specs.Stands.{ProgramStands}
use Rattle.fill_arena.specs.WellMade.{OlderPlaces, OlderSources, OlderAtoms, AreAtoms, AreSources, IsConditionItem, IsSourceItem, IsAtomItem, IsEdge, IsEntry, IsGraphOf, IsWellMade, Path}
use Rattle.fill_arena.specs.declared.entry.AtomItem.{AtomItem}
use Rattle.fill_arena.specs.declared.entry.AtomItem.TheVariants.{Const, Whole, Sub}
use Rattle.fill_arena.specs.declared.entry.Edge.{Edge}
use Rattle.fill_arena.specs.declared.entry.Entry.{Entry}
use Rattle.fill_arena.specs.declared.entry.Entry.TheVariants as kind
use Rattle.fill_arena.specs.declared.entry.SourceItem.{SourceItem}
use Rattle.fill_arena.specs.declared.entry.SourceItem.TheVariants.{Col, Select}
use Rattle.fill_arena.proofs.Becoming.{atoms_of, becomes_back, chain_moves, edge_flip, entry_weaker, from_atoms, from_graph, from_places, from_sources, graph_of, places_of, program_moves, source_flip, source_moves, sources_of}
use Rattle.fill_arena.proofs.Indexed.{interned_kept, interned_there}
use Rattle.fill_arena.proofs.Lists.{get_left, get_last, get_pushed}
use Rattle.fill_arena.proofs.Marking.{named_older}
use Rattle.fill_arena.proofs.Zips.{zip_each, zip_flip, zip_get, zip_weaker}

-- a path leads along what became of its edges
path_becomes : (R : ℕ → ℕ → Type 0) (es fs : List Edge) → AllZip (EdgeBecomes R) es fs → (path : List Edge) (from to : ℕ) → Path es from path to → (other : List Edge) × Path fs from other to × (length other ≡ length path)
path_becomes R es fs z [] from to h = ([], h, refl)
path_becomes R es fs z (e ∷ rest) from to h =
    let f = zip_get (EdgeBecomes R) es fs z h.0.0 e h.0.1 in
    let on = path_becomes R es fs z rest e.to to h.2 in
    (f.0 ∷ on.0, ((h.0.0, f.1), sym f.2.0 ∙ h.1, subst (λ t. Path fs t on.0 to) f.2.1 on.1), ap suc on.2)

module _ (c d : List Entry) (R : ℕ → ℕ → Type 0) (right : (s n : ℕ) → R s n → Becomes c d R s n) where
  older_places : (m s n : ℕ) → R s n → OlderPlaces c m s → OlderPlaces d (length d) n
  older_places m s n r h =
      let there = places_of c d R right s n h.0.0 r h.0.1 in
      ((h.0.0, there), slice_get_within d n (kind.Places h.0.0) there)

  older_sources : (m s n : ℕ) → R s n → OlderSources c m s → OlderSources d (length d) n
  older_sources m s n r h =
      let o = sources_of c d R right s n h.0.0 r h.0.1 in
      ((o.0, o.1), slice_get_within d n (kind.Sources o.0) o.1)

  older_atoms : (m s n : ℕ) → R s n → OlderAtoms c m s → OlderAtoms d (length d) n
  older_atoms m s n r h =
      let o = atoms_of c d R right s n h.0.0 r h.0.1 in
      ((o.0, o.1), slice_get_within d n (kind.Atoms o.0) o.1)

  option_made : (m : ℕ) (o p : Option ℕ) → OptionBecomes R o p → IfSome o (OlderAtoms c m) → IfSome p (OlderAtoms d (length d))
  option_made m None None b h = tt
  option_made m None (Some n) b h = absurd b
  option_made m (Some s) None b h = absurd b
  option_made m (Some s) (Some n) b h = older_atoms m s n b h

  source_made : (m : ℕ) (x y : SourceItem) → SourceBecomes R x y → IsSourceItem c m x → IsSourceItem d (length d) y
  source_made m (Col k) (Col n) b h = tt
  source_made m (Col k) (Select j) b h = absurd b
  source_made m (Select i) (Col n) b h = absurd b
  source_made m (Select i) (Select j) b h =
      let long = length_all_zip (ConditionBecomes R) i.conditions j.conditions b.3 in
      let some = h.some in
      let few = h.few in
      record {
        some = omega arith;
        few = omega arith;
        older = zip_each (ConditionBecomes R) (IsConditionItem c m) (IsConditionItem d (length d)) (λ x y w o. option_made m x.atoms y.atoms w.1 o) i.conditions j.conditions b.3 h.older;
        filled = (h.filled.0, source_moves c d R right h.filled.0 (Select i) (Select j) b h.filled.1);
        shallow = λ s fits. h.shallow s (source_moves d c (λ n k. R k n) (becomes_back c d R right) s (Select j) (Select i) (source_flip R (λ n k. R k n) (λ k n w. w) (Select i) (Select j) b) fits);
      }

  atom_made : (m : ℕ) (x y : AtomItem) → AtomBecomes R x y → IsAtomItem c m x → IsAtomItem d (length d) y
  atom_made m (Const t) (Const u) b h = subst (λ v. length v ≤ 100) b h
  atom_made m (Const t) (Whole n) b h = absurd b
  atom_made m (Const t) (Sub n l r) b h = absurd b
  atom_made m (Whole s) (Const u) b h = absurd b
  atom_made m (Whole s) (Whole n) b h = older_sources m s n b h
  atom_made m (Whole s) (Sub n l r) b h = absurd b
  atom_made m (Sub s p q) (Const u) b h = absurd b
  atom_made m (Sub s p q) (Whole n) b h = absurd b
  atom_made m (Sub s p q) (Sub n l r) b h = (older_sources m s n b.0 h.0, older_places m p l b.1 h.1, older_places m q r b.2 h.2)

  graph_made : (m nodes : ℕ) (es fs : List Edge) → AllZip (EdgeBecomes R) es fs → IsGraphOf c m nodes es → IsGraphOf d (length d) nodes fs
  graph_made m nodes es fs z h =
      let back : ℕ → ℕ → Type 0 = λ n k. R k n in
      let flipped = zip_flip (EdgeBecomes R) (EdgeBecomes back) (edge_flip R back (λ k n w. w)) es fs z in
      record {
        some = h.some;
        each = zip_each (EdgeBecomes R) (IsEdge c m nodes) (IsEdge d (length d) nodes) (λ e f b x.
            let from = b.0 in
            let to = b.1 in
            let onward = x.onward in
            let within = x.within in
            record { onward = omega arith; within = omega arith; atoms = older_atoms m e.atoms f.atoms b.2 x.atoms }) es fs z h.each;
        from_first = λ k lt. let p = h.from_first k lt in let o = path_becomes R es fs z p.0 0 k p.1 in (o.0, o.1);
        to_last = λ k lt. let p = h.to_last k lt in let o = path_becomes R es fs z p.0 k (nodes - 1) p.1 in (o.0, o.1);
        short = λ from to path w.
            let o = path_becomes back fs es flipped path from to w in
            let few = h.short from to o.0 o.1 in
            subst (λ l. l ≤ 100) o.2 few;
      }

  -- what becomes of an entry is well made, at the end of the other arena
  pub entry_made : (m : ℕ) (e f : Entry) → EntryBecomes R e f → IsEntry c m e → IsEntry d (length d) f
  entry_made m (kind.Places places) f b h = subst (IsEntry d (length d)) (sym (from_places R f places b)) h
  entry_made m (kind.Sources items) f b h =
      let o = from_sources R f items b in
      let long = length_all_zip (SourceBecomes R) items o.0 o.2 in
      let some = h.some in
      let made : AreSources d (length d) o.0 =
      record { some = omega arith; each = zip_each (SourceBecomes R) (IsSourceItem c m) (IsSourceItem d (length d)) (source_made m) items o.0 o.2 h.each } in
      subst (IsEntry d (length d)) (sym o.1) made
  entry_made m (kind.Atoms items) f b h =
      let o = from_atoms R f items b in
      let long = length_all_zip (AtomBecomes R) items o.0 o.2 in
      let some = h.some in
      let made : AreAtoms d (length d) o.0 =
      record { some = omega arith; each = zip_each (AtomBecomes R) (IsAtomItem c m) (IsAtomItem d (length d)) (atom_made m) items o.0 o.2 h.each } in
      subst (IsEntry d (length d)) (sym o.1) made
  entry_made m (kind.Graph nodes edges) f b h =
      let o = from_graph R f nodes edges b in
      subst (IsEntry d (length d)) (sym o.1) (graph_made m nodes edges o.0 o.2 h)

-- the table with one more place has what it had
takes_kept : (t : List (Option ℕ)) (o : Option ℕ) (s n : ℕ) → Takes t s n → Takes (t ++ o ∷ []) s n
takes_kept t o s n h = get_left t (o ∷ []) s (slice_get_within t s (Some n) h) ∙ h

becomes_later : (c d e : List Entry) (t : List (Option ℕ)) (o : Option ℕ) (s n : ℕ) → Extends d e → Becomes c d (Takes t) s n → Becomes c e (Takes (t ++ o ∷ [])) s n
becomes_later c d e t o s n extends w = (w.0, w.1, w.2, extends n w.1 w.3, entry_weaker (Takes t) (Takes (t ++ o ∷ [])) (takes_kept t o) w.0 w.1 w.4)

one_longer : (t : List (Option ℕ)) (o : Option ℕ) (s : ℕ) → s < length (t ++ o ∷ []) → (s < length t) ⊎ (s ≡ length t)
one_longer t o s lt =
    let long = length-append t (o ∷ []) in
    elim (cases_lt s (length t)) [
      | inl less ↦ inl less
      | inr past ↦ inr (omega arith)
    ]

pub copied_start : (c : List Entry) (marks : List Bool) → AreCopied c marks [] []
copied_start c marks = record {
  right = λ s n h. absurd cc;
  all = λ s lt is. absurd (omega arith);
  only = λ n lt. absurd (omega arith);
}

module _ (c : List Entry) (marks : List Bool) (d : List Entry) (t : List (Option ℕ)) (are : AreCopied c marks d t) where
  -- a number that isn't marked
  pub copied_none : ¬ (IsMarked marks (length t)) → AreCopied c marks d (t ++ None ∷ [])
  copied_none none = record {
    right = λ s n h. elim (get_pushed t None s (Some n) h) [
      | inl a ↦ becomes_later c d d t None s n (λ k x there. there) (are.right s n a.1)
      | inr b ↦ absurd (let e = b.1 in cc)
    ];
    all = λ s lt is. elim (one_longer t None s lt) [
      | inl a ↦ let n = are.all s a is in (n.0, takes_kept t None s n.0 n.1)
      | inr b ↦ absurd (none (subst (IsMarked marks) b is))
    ];
    only = λ n lt. let w = are.only n lt in (w.0, w.1, takes_kept t None w.0 n w.2);
  }

  -- a marked one, whose entry's copy the other arena has under a number
  pub copied_some : (e f : Entry) (n : ℕ) (other : List Entry) → slice_get c (length t) ≡ Some e → IsMarked marks (length t) → EntryBecomes (Takes t) e f → Interns d other f n → AreCopied c marks other (t ++ Some n ∷ [])
  copied_some e f n other at marked becomes interns =
      let extends = interned_kept d other f n interns in
      record {
        right = λ s m h. elim (get_pushed t (Some n) s (Some m) h) [
          | inl a ↦ becomes_later c d other t (Some n) s m extends (are.right s m a.1)
          | inr b ↦
              let b1 = b.1 in
              let same : n ≡ m = cc in
              let there = subst (λ k. slice_get other k ≡ Some f) same (interned_there d other f n interns) in
              (e, f, subst (λ k. slice_get c k ≡ Some e) (sym b.0) at, there, entry_weaker (Takes t) (Takes (t ++ Some n ∷ [])) (takes_kept t (Some n)) e f becomes)
        ];
        all = λ s lt is. elim (one_longer t (Some n) s lt) [
          | inl a ↦ let m = are.all s a is in (m.0, takes_kept t (Some n) s m.0 m.1)
          | inr b ↦ (n, subst (λ k. slice_get (t ++ Some n ∷ []) k ≡ Some (Some n)) (sym b) (get_last t (Some n)))
        ];
        only = λ m lt. elim (added m lt) [
          | inl a ↦ let w = are.only m a in (w.0, w.1, takes_kept t (Some n) w.0 m w.2)
          | inr b ↦ (length t, marked, subst (λ k. slice_get (t ++ Some n ∷ []) (length t) ≡ Some (Some k)) (sym b) (get_last t (Some n)))
        ];
      }
    where
      added : (m : ℕ) → m < length other → (m < length d) ⊎ (m ≡ n)
      added m lt = elim interns [
        | inl a ↦ inl (subst (λ l. m < length l) a.1 lt)
        | inr b ↦
            let long = ap length b.2 ∙ length-append d (f ∷ []) in
            let last = b.1 in
            elim (cases_lt m (length d)) [
              | inl less ↦ inl less
              | inr past ↦ inr (omega arith)
            ]
      ]

  -- what a marked entry names has new numbers
  pub names_have : IsWellMade c → ((m n : ℕ) → IsMarked marks m → Names c m n → IsMarked marks n) → (e : Entry) → slice_get c (length t) ≡ Some e → IsMarked marks (length t) → EachIn (HasNew t) (entry_names e)
  names_have made closed e at is k s there =
      let w : Names c (length t) s = (e, at, (k, there)) in
      are.all s (named_older c made (length t) s w) (closed (length t) s is w)

  -- so have the listed graphs
  pub graphs_have : (live : List ℕ) → EachIn (IsGraph c) live → AreNamed c live marks → length t ≡ length c → EachIn (HasNew t) live
  graphs_have live graphs named long k g there =
      let is = graphs k g there in
      let within = slice_get_within c g (kind.Graph is.0 is.1) is.2 in
      are.all g (omega arith) (named.roots g (k, there))

  module _ (old new : List ℕ) (zip : AllZip (Takes t) old new) where
    pub new_graphs : EachIn (IsGraph c) old → EachIn (IsGraph d) new
    new_graphs each = zip_each (Takes t) (IsGraph c) (IsGraph d) (λ g h r is. let o = graph_of c d (Takes t) are.right g h is.0 is.1 r is.2 in (is.0, o.0, o.1)) old new zip each

    pub new_same : AllZip (λ g h. (p : Atoms) → ProgramStands d h p ↔ ProgramStands c g p) old new
    new_same = zip_weaker (Takes t) (λ g h. (p : Atoms) → ProgramStands d h p ↔ ProgramStands c g p) (λ g h r p.
        (program_moves d c (λ n s. Takes t s n) (becomes_back c d (Takes t) are.right) h g p r, program_moves c d (Takes t) are.right g h p r)) old new zip

    pub new_named : AreNamed c old marks → (n : ℕ) → n < length d → IsNamed d new n
    new_named named n lt =
        let w = are.only n lt in
        let l = named.named w.0 w.1 in
        let to = zip_get (Takes t) old new zip l.2.0 l.0 l.2.1 in
        let moved = chain_moves c d (Takes t) are.right l.1 l.0 w.0 to.0 to.2 l.3 in
        let first = moved.2 in
        let second = w.2 in
        let same : moved.0 ≡ n = cc in
        (to.0, moved.1, (l.2.0, to.1), subst (λ k. Leads d to.0 moved.1 k) same moved.3)
