-- What two conditions have in common.
use Rattle.std.proofs.Common.{◌≡◌, ◌↔◌, ℕ, List, length, Option, Some, None, slice_get, refl, sym, subst, ◌∙◌}
use Rattle.fill_tree.specs.Tree.{AtomTree, constant, whole, sub}
use Rattle.fill_tree.specs.Grammar.{IsPart}
use Rattle.fill_arena.specs.Contents.{Extends, IsAtomSet}
use Rattle.fill_arena.specs.Stands.{AtomStands, SomeAtom}
use Rattle.fill_arena.specs.declared.entry.Entry.{Entry}
use Rattle.fill_arena.specs.declared.entry.Entry.TheVariants as kind
use Rattle.fill_arena.specs.declared.entry.AtomItem.{AtomItem}
use Rattle.fill_arena.specs.declared.entry.ConditionItem.{ConditionItem}
use Rattle.fill_arena.proofs.Lists.{extends_on}
use Rattle.fill_meet.specs.Meet.{AreMet, AreApart}
use Rattle.fill_meet.specs.Sets.{AreAtomsMet, PartStands, PartsMeet, ConditionIn, ConditionsMeet, IsCommonConstant, IsPartItem}
use Rattle.fill_meet.proofs.AtomPairs.{part_item, item_part}
use Rattle.fill_meet.proofs.Lists.{extends_length}
use Rattle.fill_meet.proofs.Grows.{atoms_within, condition_stays}

pub not_some : {A : Type 0} (x : A) (o : Option A) → o ≡ None → o ≡ Some x → ⊥
not_some x o n e = absurd cc

some_same : (s t : ℕ) → Some s ≡ Some t → t ≡ s
some_same s t e = cc

-- no atom but constants stands in both
parts_none : (c : List Entry) (x y : Option ℕ) → ((d : List Entry) → Extends c d → (a : AtomTree) → IsPart a → PartStands d x a → PartStands d y a → ⊥) → PartsMeet c x y None
parts_none c x y none =
    record {
      older = tt;
      both = λ d o a p. (λ h. absurd (not_some h.0 None refl h.1), λ h. absurd (none d o a p h.0 h.1));
      some = λ d s o e. absurd (not_some s None refl e);
    }

pub parts_left : (c : List Entry) (x y : Option ℕ) → x ≡ None → PartsMeet c x y None
parts_left c x y e = parts_none c x y (λ d o a p h g. not_some h.0 x e h.1)

pub parts_right : (c : List Entry) (x y : Option ℕ) → y ≡ None → PartsMeet c x y None
parts_right c x y e = parts_none c x y (λ d o a p h g. not_some g.0 y e g.1)

stands_in : (a : AtomTree) (d : List Entry) (s : ℕ) → PartStands d (Some s) a → AtomStands d s a
stands_in a d s h = subst (λ n. AtomStands d n a) (some_same s h.0 h.1) h.2

pub parts_apart : (c : List Entry) (s t : ℕ) → AreApart AtomStands c s t → PartsMeet c (Some s) (Some t) None
parts_apart c s t n = parts_none c (Some s) (Some t) (λ d o a p h g. n d o a (stands_in a d s h) (stands_in a d t g))

-- a set that is met has its items in each later arena
listed : (c d : List Entry) (s t m : ℕ) → AreMet AtomStands c s t m → Extends c d → (items : List AtomItem) → slice_get d m ≡ Some (kind.Atoms items) → slice_get c m ≡ Some (kind.Atoms items)
listed c d s t m met o items at =
    let now = (met.some c (λ n e h. h)).1 in
    let e : Some (kind.Atoms now.0) ≡ Some (kind.Atoms items) = sym (o m (kind.Atoms now.0) now.1) ∙ at in
    now.1 ∙ e

pub parts_constants : (c : List Entry) (s t m : ℕ) → AreAtomsMet c s t m → (SomeAtom c m IsPartItem → ⊥) → PartsMeet c (Some s) (Some t) None
parts_constants c s t m made n =
    parts_none c (Some s) (Some t)
    (λ d o a p h g.
    let z = (made.met.both d o a).1 (stands_in a d s h, stands_in a d t g) in
    n (z.0, listed c d s t m made.met o z.0 z.1, (z.2.0, z.2.1, part_item d a z.2.0 p z.2.2)))

pub met_set : (c : List Entry) (s t m : ℕ) → AreAtomsMet c s t m → IsAtomSet c m
met_set c s t m made = let r = (made.met.some c (λ n e h. h)).1 in (r.0, r.1)

pub parts_met : (c : List Entry) (s t m : ℕ) → AreAtomsMet c s t m → SomeAtom c m IsPartItem → PartsMeet c (Some s) (Some t) (Some m)
parts_met c s t m made z =
    record {
      older = atoms_within c m (z.0, z.1);
      both = λ d o a p. (
        λ h. let b = (made.met.both d o a).0 (stands_in a d m h) in ((s, refl, b.0), (t, refl, b.1)),
        λ h. (m, refl, (made.met.both d o a).1 (stands_in a d s h.0, stands_in a d t h.1)),
      );
      some = λ d n o e.
          (let at = o m (kind.Atoms z.0) z.1 in
          let k = z.2.1 in
          let r = made.each d o z.0 at k.0 z.2.0 k.1 in
          (r.0, item_part d r.0 z.2.0 z.2.2 r.1, (m, refl, (z.0, at, (z.2.0, k, r.1)))));
    }

as_condition : (d : List Entry) (z : ConditionItem) (a : AtomTree) → IsPart a → PartStands d z.atoms a → ConditionIn d z a
as_condition d z (constant t) p h = absurd p
as_condition d z (whole x) p h = h
as_condition d z (sub x l r) p h = h

module _ (c : List Entry) (x y z : ConditionItem) (k : IsCommonConstant x y z.constant) (p : PartsMeet c x.atoms y.atoms z.atoms) where
  condition_both : (d : List Entry) → Extends c d → (a : AtomTree) → ConditionIn d z a ↔ (ConditionIn d x a × ConditionIn d y a)
  condition_both d o (constant t) = k t
  condition_both d o (whole s) = p.both d o (whole s) tt
  condition_both d o (sub s l r) = p.both d o (sub s l r) tt

  pub condition_met : ConditionsMeet c x y z
  condition_met =
      record {
        older = p.older;
        both = condition_both;
        some = λ d s o e. (let r = p.some d s o e in (r.0, r.1, as_condition d z r.0 r.1 r.2));
      }

pub condition_meets_on : (c d : List Entry) (x y z : ConditionItem) → Extends c d → ConditionsMeet c x y z → ConditionsMeet d x y z
condition_meets_on c d x y z o m =
    record {
      older = condition_stays c d o (length c) (length d) (extends_length c d o) z m.older;
      both = λ e p. m.both e (extends_on c d e o p);
      some = λ e s p. m.some e s (extends_on c d e o p);
    }
