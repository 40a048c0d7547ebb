-- What was found of two graphs is so under their new numbers.
use Rattle.std.proofs.Common.{◌≡◌, zero, suc, ℕ, Bool, true, false, cond, List, [], ◌∷◌, Some, None, slice_get, take, nat_eq, refl, ap, sym, ◌∙◌, subst, rules}
use Rattle.std.specs.Prelude.{◌↔◌}
use Rattle.std.specs.HashMap.{HashMap, get, Updates}
use Rattle.std.specs.List.{AllZip}
use Rattle.fill_tree.specs.Tree.{Atoms}
use Rattle.fill_arena.specs.Contents.{EachIn, Extends, IsGraph}
use Rattle.fill_arena.specs.Stands.{ProgramStands}
use Rattle.fill_arena.specs.WellMade.{IsWellMade}
use Rattle.fill_arena.specs.declared.entry.Entry.{Entry}
use Rattle.fill_arena.proofs.Grows.{programs_stay}
use Rattle.fill_arena.proofs.Lists.{get_taken}
use Rattle.fill_space.specs.Met.{AreRenamed, AreReplaced, IsRenamed, IsTold}
use Rattle.fill_space.specs.declared.carried.Renaming.{Renaming}
use Rattle.fill_space.specs.declared.carried.Renaming.TheVariants.{Cut}

zip_at : {A B : Type 0} (R : A → B → Type 0) (xs : List A) (ys : List B) (i : ℕ) (x : A) (y : B) → AllZip R xs ys → slice_get xs i ≡ Some x → slice_get ys i ≡ Some y → R x y
zip_at R [] ys i x y z hx hy = absurd cc
zip_at R (u ∷ xs) [] i x y z hx hy = absurd cc
zip_at R (u ∷ xs) (v ∷ ys) zero x y z hx hy =
    let first : u ≡ x = cc in
    let second : v ≡ y = cc in
    subst (λ w. R w y) first (subst (λ w. R u w) second z.0)
zip_at R (u ∷ xs) (v ∷ ys) (suc i) x y z hx hy = zip_at R xs ys i x y z.1 hx hy

-- copies rename what is listed
pub copied_renamed : (c d : List Entry) (old new listed lent : List ℕ) (r : Renaming) → old ≡ listed → new ≡ lent → EachIn (IsGraph d) new
    → AllZip (λ k n. (p : Atoms) → ProgramStands d n p ↔ ProgramStands c k p) old new
    → ((k n : ℕ) → IsRenamed r k n → (i : ℕ) × (slice_get listed i ≡ Some k) × (slice_get lent i ≡ Some n)) → AreRenamed c d r
copied_renamed c d old new listed lent r e f graphs same replaced = record {
  each = λ k n g h.
      (let at = replaced k n h in
      let hk = subst (λ (ks : List ℕ). slice_get ks at.0 ≡ Some k) (sym e) at.1 in
      let hn = subst (λ (ns : List ℕ). slice_get ns at.0 ≡ Some n) (sym f) at.2 in
      (graphs at.0 n hn, zip_at (λ k n. (p : Atoms) → ProgramStands d n p ↔ ProgramStands c k p) old new at.0 k n same hk hn));
}

-- a cut leaves the graphs before its mark
pub cut_renamed : (c d : List Entry) (m : ℕ) → IsWellMade d → d ≡ take m c → Extends d c → AreRenamed c d (Cut m)
cut_renamed c d m made cut on = record {
  each = λ k n g h.
      (let front : slice_get (take m c) k ≡ slice_get c k = get_taken m c k h.1 in
      let here : IsGraph d k = (g.0, g.1, (ap (λ (xs : List Entry). slice_get xs k) cut ∙ front ∙ g.2)) in
      subst (λ v. IsGraph d v × ((p : Atoms) → ProgramStands d v p ↔ ProgramStands c k p)) (sym h.0) (here, λ p. programs_stay d c made on k p here));
}

module _ (c d : List Entry) (r : Renaming) (renamed : AreRenamed c d r) (a b x y : ℕ) (ha : IsRenamed r a x) (hb : IsRenamed r b y) where
  pub none_carried : IsTold c a b None → IsTold d x y None
  none_carried t =
      let first = renamed.each a x t.first ha in
      let second = renamed.each b y t.second hb in
      record {
        first = first.0;
        second = second.0;
        met = λ p h. t.met p ((first.1 p).0 h.0, (second.1 p).0 h.1);
        some = tt;
      }

  pub some_carried : (k n : ℕ) → IsRenamed r k n → IsTold c a b (Some k) → IsTold d x y (Some n)
  some_carried k n hk t =
      let first = renamed.each a x t.first ha in
      let second = renamed.each b y t.second hb in
      let both = renamed.each k n t.met.0 hk in
      record {
        first = first.0;
        second = second.0;
        met = (
          both.0,
          λ p. (
            λ h. let each = (t.met.1 p).0 ((both.1 p).0 h) in ((first.1 p).1 each.0, (second.1 p).1 each.1),
            λ h. (both.1 p).1 ((t.met.1 p).1 ((first.1 p).0 h.0, (second.1 p).0 h.1)),
          ),
        );
        some = (t.some.0, (first.1 t.some.0).1 t.some.1, (second.1 t.some.0).1 t.some.2);
      }

-- a table of copies with one more
module _ {S : Type 0} (old new : List ℕ) (copies more : HashMap ℕ ℕ S) (i k n : ℕ) (hk : slice_get old i ≡ Some k) (hn : slice_get new i ≡ Some n) where
  put_step : (j m : ℕ) (b : Bool) → nat_eq k j ≡ b → get nat_eq more j ≡ cond b (Some n) (get nat_eq copies j) → get nat_eq more j ≡ Some m → AreReplaced old new copies → (p : ℕ) × (slice_get old p ≡ Some j) × (slice_get new p ≡ Some m)
  put_step j m true e u h r =
      let same : k ≡ j = search rules in
      let q : Some n ≡ Some m = sym u ∙ h in
      let copy : n ≡ m = cc in
      (i, subst (λ v. slice_get old i ≡ Some v) same hk, subst (λ v. slice_get new i ≡ Some v) copy hn)
  put_step j m false e u h r = r.each j m (sym u ∙ h)

  pub replaced_put : Updates nat_eq copies more k (Some n) → AreReplaced old new copies → AreReplaced old new more
  replaced_put u r = record { each = λ j m h. put_step j m (nat_eq k j) refl (u.0 j) h r }
