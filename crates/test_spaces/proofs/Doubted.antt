-- The sets and the graph of a small arena.
use Rattle.std.proofs.Common.{◌≡◌, ℕ, zero, suc, ◌<◌, ◌≤◌, inl, List, [], ◌∷◌, length, slice_get, None, Some, Result, Ok, Err, IfOk, refl, subst, arith}
use Rattle.fill_arena.proofs.Samples.{each_nil, each_cons}
use Rattle.std.proofs.lemmas.Option.{slice_get_within}
use Rattle.fill_arena.specs.Contents.{IsSourceSet, IsAtomSet}
use Rattle.fill_tree.specs.Grammar.{source_depth, atom_depth}
use Rattle.fill_tree.specs.Tree.{SourceTree, AtomTree, col, select, constant, whole, sub, end, more}
use Rattle.fill_arena.specs.Stands.{AtomFits, ConditionFits, SourceFits}
use Rattle.fill_arena.specs.WellMade.{AreAtoms, AreSources, IsAtomItem, IsConditionItem, IsEdge, IsGraphOf, IsSourceItem, OlderAtoms, OlderSources, Path}
use Rattle.fill_arena.specs.declared.entry.AtomItem.TheVariants.{Whole}
use Rattle.fill_arena.specs.declared.entry.ConditionItem.{ConditionItem}
use Rattle.fill_arena.specs.declared.entry.SelectItem.{SelectItem}
use Rattle.fill_arena.specs.declared.entry.SourceItem.{SourceItem}
use Rattle.fill_arena.specs.declared.entry.SourceItem.TheVariants.{Col, Select}
use Rattle.fill_arena.specs.declared.entry.AtomItem.{AtomItem}
use Rattle.fill_arena.specs.declared.entry.Edge.{Edge}
use Rattle.fill_arena.specs.declared.entry.Entry.{Entry}
use Rattle.fill_arena.specs.declared.entry.Entry.TheVariants as kind

pub if_ok : {A E : Type 0} {P Q : A → Type 0} (r : Result A E) → IfOk r P → ((x : A) → P x → Q x) → IfOk r Q
if_ok (Ok x) h f = f x h
if_ok (Err e) h f = h

pub older_sources : (c : List Entry) (s : ℕ) → IsSourceSet c s → OlderSources c (length c) s
older_sources c s live = (live, slice_get_within c s (kind.Sources live.0) live.1)

pub sample_whole : (c : List Entry) (s : ℕ) → IsSourceSet c s → AreAtoms c (length c) (Whole s ∷ [])
sample_whole c s live =
    let P = IsAtomItem c (length c) in
    record { some = omega arith; each = each_cons P (Whole s) [] (older_sources c s live) (each_nil P) }

pub sample_pair : (c : List Entry) (x y : AtomItem) → IsAtomItem c (length c) x → IsAtomItem c (length c) y → AreAtoms c (length c) (x ∷ y ∷ [])
sample_pair c x y first second =
    let P = IsAtomItem c (length c) in
    record { some = omega arith; each = each_cons P x (y ∷ []) first (each_cons P y [] second (each_nil P)) }

abbrev step : ℕ → Edge
step atoms = record { from = 0; to = 1; atoms = atoms }

abbrev next : ℕ → Edge
next atoms = record { from = 1; to = 2; atoms = atoms }

-- each edge leads to the node after its first one, which is node 1 at the most
placed : (a b j : ℕ) (e : Edge) → slice_get (next b ∷ step a ∷ []) j ≡ Some e → (e.to ≡ suc e.from) × (e.from ≤ 1)
placed a b zero e at = let same : next b ≡ e = cc in subst (λ (f : Edge). (f.to ≡ suc f.from) × (f.from ≤ 1)) same (refl, omega arith)
placed a b (suc zero) e at = let same : step a ≡ e = cc in subst (λ (f : Edge). (f.to ≡ suc f.from) × (f.from ≤ 1)) same (refl, omega arith)
placed a b (suc (suc k)) e at = absurd cc

-- no path goes further than two edges
short : (a b from to : ℕ) (path : List Edge) → Path (next b ∷ step a ∷ []) from path to → length path ≤ 2
short a b from to [] h = omega arith
short a b from to (e ∷ []) h = omega arith
short a b from to (e ∷ f ∷ []) h = omega arith
short a b from to (e ∷ f ∷ g ∷ rest) h =
    let one = placed a b h.0.0 e h.0.1 in
    let two = placed a b h.2.0.0 f h.2.0.1 in
    let three = placed a b h.2.2.0.0 g h.2.2.0.1 in
    let on : f.from ≡ e.to = h.2.1 in
    let further : g.from ≡ f.to = h.2.2.1 in
    absurd (omega (arith, one.0, two.0, three.1, on, further))

from_first : (a b m : ℕ) → m < 3 → (path : List Edge) × Path (next b ∷ step a ∷ []) 0 path m
from_first a b zero lt = ([], refl)
from_first a b (suc zero) lt = (step a ∷ [], ((1, refl), refl, refl))
from_first a b (suc (suc zero)) lt = (step a ∷ next b ∷ [], ((1, refl), refl, ((0, refl), refl, refl)))
from_first a b (suc (suc (suc k))) lt = absurd (omega arith)

to_last : (a b m : ℕ) → m < 3 → (path : List Edge) × Path (next b ∷ step a ∷ []) m path 2
to_last a b zero lt = (step a ∷ next b ∷ [], ((1, refl), refl, ((0, refl), refl, refl)))
to_last a b (suc zero) lt = (next b ∷ [], ((0, refl), refl, refl))
to_last a b (suc (suc zero)) lt = ([], refl)
to_last a b (suc (suc (suc k))) lt = absurd (omega arith)

pub sample_graph : (c : List Entry) (a b : ℕ) → IsAtomSet c a → IsAtomSet c b → IsGraphOf c (length c) 3 (next b ∷ step a ∷ [])
sample_graph c a b live there =
    let first = slice_get_within c a (kind.Atoms live.0) live.1 in
    let second = slice_get_within c b (kind.Atoms there.0) there.1 in
    let P = IsEdge c (length c) 3 in
    record {
      some = omega arith;
      each = each_cons P (next b) (step a ∷ []) (record { onward = omega arith; within = omega arith; atoms = (there, second) })
          (each_cons P (step a) [] (record { onward = omega arith; within = omega arith; atoms = (live, first) }) (each_nil P));
      from_first = from_first a b;
      to_last = to_last a b;
      short = λ from to path h. let few = short a b from to path h in omega arith;
    }

-- the lookup by the whole of column 1
abbrev by_column : ℕ → SelectItem
by_column set = record { column = 2; table = 1; key = 1; conditions = (record { constant = None; atoms = Some set }) ∷ [] }

module _ (c : List Entry) (column set : ℕ) (lists : slice_get c column ≡ Some (kind.Sources (Col 1 ∷ []))) (wholes : slice_get c set ≡ Some (kind.Atoms (Whole column ∷ []))) where
  abbrev condition : ConditionItem
  condition = record { constant = None; atoms = Some set }

  only_column : (s : SourceTree) (items : List SourceItem) (k : ℕ) (i : SourceItem) → slice_get c column ≡ Some (kind.Sources items) → slice_get items k ≡ Some i → SourceFits s c i → source_depth s ≡ 0
  only_column (col m) items k i there at fits = refl
  only_column (select n t q cs) items k i there at fits =
      let same : items ≡ Col 1 ∷ [] = cc in
      absurd (none k (subst (λ (xs : List SourceItem). slice_get xs k ≡ Some i) same at))
    where
      none : (j : ℕ) → slice_get (Col 1 ∷ []) j ≡ Some i → ⊥
      none zero e = let same : i ≡ Col 1 = cc in subst (λ (x : SourceItem). SourceFits (select n t q cs) c x) same fits
      none (suc j) e = absurd cc

  only_whole : (a : AtomTree) (items : List AtomItem) (k : ℕ) (i : AtomItem) → slice_get c set ≡ Some (kind.Atoms items) → slice_get items k ≡ Some i → AtomFits a c i → atom_depth a ≡ 0
  only_whole (constant t) items k i there at fits = refl
  only_whole (whole s) items k i there at fits =
      let same : items ≡ Whole column ∷ [] = cc in
      by k (subst (λ (xs : List AtomItem). slice_get xs k ≡ Some i) same at)
    where
      by : (j : ℕ) → slice_get (Whole column ∷ []) j ≡ Some i → source_depth s ≡ 0
      by zero e =
          let same : i ≡ Whole column = cc in
          let f = subst (λ (x : AtomItem). AtomFits (whole s) c x) same fits in
          only_column s f.0 f.2.1.0 f.2.0 f.1 f.2.1.1 f.2.2
      by (suc j) e = absurd cc
  only_whole (sub s p q) items k i there at fits =
      let same : items ≡ Whole column ∷ [] = cc in
      absurd (none k (subst (λ (xs : List AtomItem). slice_get xs k ≡ Some i) same at))
    where
      none : (j : ℕ) → slice_get (Whole column ∷ []) j ≡ Some i → ⊥
      none zero e = let same : i ≡ Whole column = cc in subst (λ (x : AtomItem). AtomFits (sub s p q) c x) same fits
      none (suc j) e = absurd cc

  flat : (a : AtomTree) → ConditionFits a c condition (AtomFits a c) → atom_depth a ≡ 0
  flat (constant t) h = refl
  flat (whole s) h = let e = h.1 in let same : h.0 ≡ set = cc in only_whole (whole s) h.2.0 h.2.2.1.0 h.2.2.0 (subst (λ n. slice_get c n ≡ Some (kind.Atoms h.2.0)) same h.2.1) h.2.2.1.1 h.2.2.2
  flat (sub s p q) h = let e = h.1 in let same : h.0 ≡ set = cc in only_whole (sub s p q) h.2.0 h.2.2.1.0 h.2.2.0 (subst (λ n. slice_get c n ≡ Some (kind.Atoms h.2.0)) same h.2.1) h.2.2.1.1 h.2.2.2

  shallow : (s : SourceTree) → SourceFits s c (Select (by_column set)) → source_depth s ≤ 3
  shallow (col m) fits = absurd fits
  shallow (select n t q end) fits = absurd fits.4
  shallow (select n t q (more a end)) fits = let zero_deep = flat a fits.4.0 in rw zero_deep (omega arith)
  shallow (select n t q (more a (more b rest))) fits = absurd fits.4.1

  pub sample_lookup : AreSources c (length c) (Select (by_column set) ∷ [])
  sample_lookup =
      let within = slice_get_within c set (kind.Atoms (Whole column ∷ [])) wholes in
      let older : OlderAtoms c (length c) set = ((Whole column ∷ [], wholes), within) in
      record {
        some = omega arith;
        each = each_cons (IsSourceItem c (length c)) (Select (by_column set)) [] (record {
          some = omega arith;
          few = omega arith;
          older = each_cons (IsConditionItem c (length c)) condition [] older (each_nil (IsConditionItem c (length c)));
          filled = (
            select 2 1 1 (more (whole (col 1)) end),
            (refl, refl, refl, inl tt, ((set, refl, (Whole column ∷ [], wholes, (Whole column, (0, refl), (Col 1 ∷ [], lists, (Col 1, (0, refl), refl))))), tt)),
          );
          shallow = shallow;
        }) (each_nil (IsSourceItem c (length c)));
      }
