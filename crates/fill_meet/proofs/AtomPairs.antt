-- What two items of atoms have in common.
use Rattle.std.proofs.Common.{◌≡◌, ◌↔◌, ℕ, List, refl, sym, ◌∙◌, subst}
use Rattle.fill_tokens.specs.declared.place.Place.{Place}
use Rattle.fill_tree.specs.Tree.{SourceTree, AtomTree, constant, whole, sub}
use Rattle.fill_tree.specs.Grammar.{IsPart}
use Rattle.fill_arena.specs.Contents.{Extends}
use Rattle.fill_arena.specs.Stands.{PlaceStands, SourceStands}
use Rattle.fill_arena.specs.declared.entry.Entry.{Entry}
use Rattle.fill_arena.specs.declared.entry.AtomItem.{AtomItem}
use Rattle.fill_arena.specs.declared.entry.AtomItem.TheVariants.{Const, Whole, Sub}
use Rattle.fill_meet.specs.Meet.{AreMet, AreApart}
use Rattle.fill_meet.specs.Sets.{AtomIn, IsPartItem}

pub const_met : (c : List Entry) (u v : List ℕ) → u ≡ v → AreMet AtomIn c (Const u) (Const v) (Const u)
const_met c u v e =
    record {
      both = λ d o a. (λ h. (h, subst (λ t. AtomIn d (Const t) a) e h), λ h. h.0);
      some = λ d o. (constant u, refl);
    }

const_none : (d : List Entry) (u v : List ℕ) (a : AtomTree) → AtomIn d (Const u) a → AtomIn d (Const v) a → u ≡ v
const_none d u v (constant t) p q = p ∙ sym q
const_none d u v (whole x) p q = absurd p
const_none d u v (sub x l r) p q = absurd p

pub const_apart : (c : List Entry) (u v : List ℕ) → (u ≡ v → ⊥) → AreApart AtomIn c (Const u) (Const v)
const_apart c u v n = λ d o a p q. n (const_none d u v a p q)

-- of the same kind
abbrev AreAtomsAlike : AtomItem → AtomItem → Type 0
AreAtomsAlike (Const u) (Const v) = Unit {0}
AreAtomsAlike (Const u) (Whole t) = ⊥
AreAtomsAlike (Const u) (Sub t v w) = ⊥
AreAtomsAlike (Whole s) (Const v) = ⊥
AreAtomsAlike (Whole s) (Whole t) = Unit {0}
AreAtomsAlike (Whole s) (Sub t v w) = ⊥
AreAtomsAlike (Sub s p q) (Const v) = ⊥
AreAtomsAlike (Sub s p q) (Whole t) = ⊥
AreAtomsAlike (Sub s p q) (Sub t v w) = Unit {0}

alike : (d : List Entry) (a : AtomTree) (x y : AtomItem) → AtomIn d x a → AtomIn d y a → AreAtomsAlike x y
alike d (constant t) (Const u) (Const v) f g = tt
alike d (constant t) (Const u) (Whole s) f g = g
alike d (constant t) (Const u) (Sub s p q) f g = g
alike d (constant t) (Whole s) y f g = absurd f
alike d (constant t) (Sub s p q) y f g = absurd f
alike d (whole x) (Const u) y f g = absurd f
alike d (whole x) (Whole s) (Const u) f g = g
alike d (whole x) (Whole s) (Whole t) f g = tt
alike d (whole x) (Whole s) (Sub t p q) f g = g
alike d (whole x) (Sub s p q) y f g = absurd f
alike d (sub x l r) (Const u) y f g = absurd f
alike d (sub x l r) (Whole s) y f g = absurd f
alike d (sub x l r) (Sub s p q) (Const u) f g = g
alike d (sub x l r) (Sub s p q) (Whole t) f g = g
alike d (sub x l r) (Sub s p q) (Sub t u v) f g = tt

kinds_apart : (c : List Entry) (x y : AtomItem) → (AreAtomsAlike x y → ⊥) → AreApart AtomIn c x y
kinds_apart c x y n = λ d o a f g. n (alike d a x y f g)

pub not_const : (c : List Entry) (x y : AtomItem) (u : List ℕ) → x ≡ Const u → ((v : List ℕ) → y ≡ Const v → ⊥) → AreApart AtomIn c x y
not_const c x (Const v) u e n = absurd (n v refl)
not_const c x (Whole t) u e n = rw e (kinds_apart c (Const u) (Whole t) (λ h. h))
not_const c x (Sub t v w) u e n = rw e (kinds_apart c (Const u) (Sub t v w) (λ h. h))

pub not_whole : (c : List Entry) (x y : AtomItem) (s : ℕ) → x ≡ Whole s → ((t : ℕ) → y ≡ Whole t → ⊥) → AreApart AtomIn c x y
not_whole c x (Const v) s e n = rw e (kinds_apart c (Whole s) (Const v) (λ h. h))
not_whole c x (Whole t) s e n = absurd (n t refl)
not_whole c x (Sub t v w) s e n = rw e (kinds_apart c (Whole s) (Sub t v w) (λ h. h))

pub not_sub : (c : List Entry) (x y : AtomItem) (s p q : ℕ) → x ≡ Sub s p q → ((t u v : ℕ) → y ≡ Sub t u v → ⊥) → AreApart AtomIn c x y
not_sub c x (Const v) s p q e n = rw e (kinds_apart c (Sub s p q) (Const v) (λ h. h))
not_sub c x (Whole t) s p q e n = rw e (kinds_apart c (Sub s p q) (Whole t) (λ h. h))
not_sub c x (Sub t u v) s p q e n = absurd (n t u v refl)

whole_both : (c d : List Entry) (o : Extends c d) (s t m : ℕ) → AreMet SourceStands c s t m → (a : AtomTree) → AtomIn d (Whole m) a ↔ (AtomIn d (Whole s) a × AtomIn d (Whole t) a)
whole_both c d o s t m h (constant n) = (λ x. absurd x, λ x. x.0)
whole_both c d o s t m h (whole n) = h.both d o n
whole_both c d o s t m h (sub n l r) = (λ x. absurd x, λ x. x.0)

pub whole_met : (c : List Entry) (s t m : ℕ) → AreMet SourceStands c s t m → AreMet AtomIn c (Whole s) (Whole t) (Whole m)
whole_met c s t m h =
    record { both = λ d o a. whole_both c d o s t m h a; some = λ d o. (let r = h.some d o in (whole r.0, r.1)) }

whole_none : (c d : List Entry) (o : Extends c d) (s t : ℕ) → AreApart SourceStands c s t → (a : AtomTree) → AtomIn d (Whole s) a → AtomIn d (Whole t) a → ⊥
whole_none c d o s t h (constant n) p q = p
whole_none c d o s t h (whole n) p q = h d o n p q
whole_none c d o s t h (sub n l r) p q = p

pub whole_apart : (c : List Entry) (s t : ℕ) → AreApart SourceStands c s t → AreApart AtomIn c (Whole s) (Whole t)
whole_apart c s t h = λ d o a. whole_none c d o s t h a

module _ (c : List Entry) (s t p q u v : ℕ) where
  -- the three parts of an atom that both items stand for
  sub_parts : (d : List Entry) (a : AtomTree) → AtomIn d (Sub s p q) a → AtomIn d (Sub t u v) a
      → (x : SourceTree) × (l : Place) × (r : Place) × (SourceStands d s x × SourceStands d t x) × (PlaceStands d p l × PlaceStands d u l) × (PlaceStands d q r × PlaceStands d v r)
  sub_parts d (constant n) f g = absurd f
  sub_parts d (whole n) f g = absurd f
  sub_parts d (sub x l r) f g = (x, l, r, (f.0, g.0), (f.1, g.1), (f.2, g.2))

  pub sub_apart_source : AreApart SourceStands c s t → AreApart AtomIn c (Sub s p q) (Sub t u v)
  sub_apart_source h = λ d o a f g. let k = sub_parts d a f g in h d o k.0 k.3.0 k.3.1

  pub sub_apart_left : AreApart PlaceStands c p u → AreApart AtomIn c (Sub s p q) (Sub t u v)
  sub_apart_left h = λ d o a f g. let k = sub_parts d a f g in h d o k.1 k.4.0 k.4.1

  pub sub_apart_right : AreApart PlaceStands c q v → AreApart AtomIn c (Sub s p q) (Sub t u v)
  sub_apart_right h = λ d o a f g. let k = sub_parts d a f g in h d o k.2 k.5.0 k.5.1

  module _ (m i j : ℕ) (h : AreMet SourceStands c s t m) (k : AreMet PlaceStands c p u i) (n : AreMet PlaceStands c q v j) where
    sub_both : (d : List Entry) (o : Extends c d) (a : AtomTree) → AtomIn d (Sub m i j) a ↔ (AtomIn d (Sub s p q) a × AtomIn d (Sub t u v) a)
    sub_both d o (constant z) = (λ x. absurd x, λ x. x.0)
    sub_both d o (whole z) = (λ x. absurd x, λ x. x.0)
    sub_both d o (sub x l r) = (
      λ f. let a = (h.both d o x).0 f.0 in let b = (k.both d o l).0 f.1 in let e = (n.both d o r).0 f.2 in ((a.0, b.0, e.0), (a.1, b.1, e.1)),
      λ f. ((h.both d o x).1 (f.0.0, f.1.0), (k.both d o l).1 (f.0.1, f.1.1), (n.both d o r).1 (f.0.2, f.1.2)),
    )

    pub sub_met : AreMet AtomIn c (Sub s p q) (Sub t u v) (Sub m i j)
    sub_met =
        record {
          both = λ d o a. sub_both d o a;
          some = λ d o. (let a = h.some d o in let b = k.some d o in let e = n.some d o in (sub a.0 b.0 e.0, (a.1, b.1, e.1)));
        }

-- an atom that is no constant, and an item that is none
pub part_item : (d : List Entry) (a : AtomTree) (z : AtomItem) → IsPart a → AtomIn d z a → IsPartItem z
part_item d (constant t) z p f = absurd p
part_item d (whole x) (Const u) p f = f
part_item d (whole x) (Whole s) p f = tt
part_item d (whole x) (Sub s l r) p f = tt
part_item d (sub x i j) (Const u) p f = f
part_item d (sub x i j) (Whole s) p f = tt
part_item d (sub x i j) (Sub s l r) p f = tt

pub item_part : (d : List Entry) (a : AtomTree) (z : AtomItem) → IsPartItem z → AtomIn d z a → IsPart a
item_part d (constant t) (Const u) p f = p
item_part d (constant t) (Whole s) p f = f
item_part d (constant t) (Sub s l r) p f = f
item_part d (whole x) z p f = tt
item_part d (sub x i j) z p f = tt
