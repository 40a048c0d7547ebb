-- What two lists of conditions have in common.
use Rattle.std.proofs.Common.{◌≡◌, ◌↔◌, ℕ, zero, suc, inl, inr, List, [], ◌∷◌, ◌++◌, length, Option, Some, None, slice_get, refl, sym, ap, ◌∙◌, subst, arith}
use Rattle.fill_tree.specs.Tree.{AtomTree, Atoms, constant, whole, sub, end, more}
use Rattle.fill_tree.specs.Grammar.{IsPart, HasPart}
use Rattle.fill_arena.specs.Contents.{SomeIn, EachIn, Extends}
use Rattle.fill_arena.specs.Stands.{ConditionsFit}
use Rattle.fill_arena.specs.WellMade.{IsConditionItem}
use Rattle.fill_arena.specs.declared.entry.Entry.{Entry}
use Rattle.fill_arena.specs.declared.entry.ConditionItem.{ConditionItem}
use Rattle.fill_arena.proofs.Lists.{get_pushed}
use Rattle.fill_meet.specs.Sets.{ConditionIn, ConditionsMeet, RowsMeet, IsFilled, NamesAtoms}
use Rattle.fill_meet.proofs.Lists.{same_value, in_empty, get_empty, get_there_too}
use Rattle.fill_meet.proofs.Parts.{not_some, condition_meets_on}

pub rows_start : (c : List Entry) (xs ys zs : List ConditionItem) → zs ≡ [] → RowsMeet c xs ys zs
rows_start c xs ys zs e = record { each = λ k x y z hx hy hz. absurd (get_empty k z zs e hz) }

pub rows_push : (c d : List Entry) (xs ys zs later : List ConditionItem) (i : ℕ) (x y z : ConditionItem) → Extends c d → length zs ≡ i → slice_get xs i ≡ Some x → slice_get ys i ≡ Some y
    → ConditionsMeet d x y z → later ≡ zs ++ z ∷ [] → RowsMeet c xs ys zs → RowsMeet d xs ys later
rows_push c d xs ys zs later i x y z o long hx hy m e r =
    rw e (record {
      each = λ k u v w hu hv hw. elim (get_pushed zs z k w hw) [
        | inl p ↦ condition_meets_on c d u v w o (r.each k u v w hu hv p.1)
        | inr p ↦
            let ki : k ≡ i = p.0 ∙ long in
            let xu = same_value xs i k x u (sym ki) hx hu in
            let yv = same_value ys i k y v (sym ki) hy hv in
            subst (λ n. ConditionsMeet d n v w) xu (subst (λ n. ConditionsMeet d x n w) yv (subst (λ n. ConditionsMeet d x y n) p.1 m))
      ];
    })

module _ (c : List Entry) (xs ys zs : List ConditionItem) (e : length xs ≡ length ys) (f : length zs ≡ length xs) (r : RowsMeet c xs ys zs) where
  pub rows_older : EachIn (IsConditionItem c (length c)) zs
  rows_older = λ k z h.
      let x = get_there_too zs xs k z (sym f) h in
      let y = get_there_too xs ys k x.0 (sym e) x.1 in
      (r.each k x.0 y.0 z x.1 y.1 h).older

-- each condition that names a set has an atom that is no constant
pub record AreTight (d : List Entry) (zs : List ConditionItem) : Type 0 where
  pub each : (k : ℕ) (z : ConditionItem) (s : ℕ) → slice_get zs k ≡ Some z → z.atoms ≡ Some s → (a : AtomTree) × IsPart a × ConditionIn d z a

module _ (c d : List Entry) (o : Extends c d) where
  pub rows_tight : (xs ys zs : List ConditionItem) → length xs ≡ length ys → length zs ≡ length xs → RowsMeet c xs ys zs → AreTight d zs
  rows_tight xs ys zs e f r =
      record {
        each = λ k z s h g.
            let x = get_there_too zs xs k z (sym f) h in
            let y = get_there_too xs ys k x.0 (sym e) x.1 in
            (r.each k x.0 y.0 z x.1 y.1 h).some d s o g;
      }

  pub rows_both : (row : Atoms) (xs ys zs : List ConditionItem) → length xs ≡ length ys → length zs ≡ length xs → RowsMeet c xs ys zs → ConditionsFit row d zs ↔ (ConditionsFit row d xs × ConditionsFit row d ys)
  rows_both row [] [] (z ∷ zs) e f r = absurd (omega arith)
  rows_both row [] (y ∷ ys) zs e f r = absurd (omega arith)
  rows_both row (x ∷ xs) [] zs e f r = absurd (omega arith)
  rows_both row (x ∷ xs) (y ∷ ys) [] e f r = absurd (omega arith)
  rows_both end [] [] [] e f r = (λ h. (tt, tt), λ h. tt)
  rows_both (more a row) [] [] [] e f r = (λ h. absurd h, λ h. h.0)
  rows_both end (x ∷ xs) (y ∷ ys) (z ∷ zs) e f r = (λ h. absurd h, λ h. h.0)
  rows_both (more a row) (x ∷ xs) (y ∷ ys) (z ∷ zs) e f r =
      let m = r.each 0 x y z refl refl refl in
      let rest = rows_both row xs ys zs (omega arith) (omega arith) (record { each = λ k. r.each (suc k) }) in (
        λ h. let u = (m.both d o a).0 h.0 in let v = rest.0 h.1 in ((u.0, v.0), (u.1, v.1)),
        λ h. ((m.both d o a).1 (h.0.0, h.1.0), rest.1 (h.0.1, h.1.1)),
      )

names_rest : (z : ConditionItem) (zs : List ConditionItem) → z.atoms ≡ None → SomeIn NamesAtoms (z ∷ zs) → SomeIn NamesAtoms zs
names_rest z zs e (x, (zero, h), n) = absurd (let p : Some z ≡ Some x = h in let q : z ≡ x = cc in not_some n.0 z.atoms e (ap (λ v. v.atoms) q ∙ n.1))
names_rest z zs e (x, (suc k, h), n) = (x, (k, h), n)

rows_step : (d : List Entry) (z : ConditionItem) (zs : List ConditionItem) (at : Option ℕ) → z.atoms ≡ at → IsFilled z
    → ((s : ℕ) → z.atoms ≡ Some s → (a : AtomTree) × IsPart a × ConditionIn d z a)
    → (row : Atoms) × ConditionsFit row d zs × (SomeIn NamesAtoms zs → HasPart row)
    → (row : Atoms) × ConditionsFit row d (z ∷ zs) × (SomeIn NamesAtoms (z ∷ zs) → HasPart row)
rows_step d z zs None e f t rest =
    let k = f e in (more (constant k.0) rest.0, (k.1, rest.1), λ h. inr (rest.2 (names_rest z zs e h)))
rows_step d z zs (Some s) e f t rest =
    let a = t s e in (more a.0 rest.0, (a.2, rest.1), λ h. inl a.1)

-- filled conditions can be met, with an atom that is no constant where one names a set
pub rows_some : (d : List Entry) (zs : List ConditionItem) → EachIn IsFilled zs → AreTight d zs → (row : Atoms) × ConditionsFit row d zs × (SomeIn NamesAtoms zs → HasPart row)
rows_some d [] f t = (end, tt, λ h. absurd (in_empty h.0 h.1))
rows_some d (z ∷ zs) f t =
    rows_step d z zs z.atoms refl (f 0 z refl) (λ s. t.each 0 z s refl) (rows_some d zs (λ k. f (suc k)) (record { each = λ k. t.each (suc k) }))

condition_filled : (d : List Entry) (z : ConditionItem) (a : AtomTree) → ConditionIn d z a → IsFilled z
condition_filled d z (constant t) h = λ e. (t, h)
condition_filled d z (whole x) h = λ e. absurd (not_some h.0 z.atoms e h.1)
condition_filled d z (sub x l r) h = λ e. absurd (not_some h.0 z.atoms e h.1)

pub row_filled : (d : List Entry) (row : Atoms) (zs : List ConditionItem) → ConditionsFit row d zs → EachIn IsFilled zs
row_filled d end [] h k z g = absurd cc
row_filled d end (y ∷ zs) h k z g = absurd h
row_filled d (more a row) [] h k z g = absurd h
row_filled d (more a row) (y ∷ zs) h zero z g = (let q : y ≡ z = cc in subst IsFilled q (condition_filled d y a h.0))
row_filled d (more a row) (y ∷ zs) h (suc k) z g = row_filled d row zs h.1 k z g

names_more : (z : ConditionItem) (zs : List ConditionItem) → SomeIn NamesAtoms zs → SomeIn NamesAtoms (z ∷ zs)
names_more z zs h = (h.0, (suc h.1.0, h.1.1), h.2)

part_names : (d : List Entry) (a : AtomTree) (z : ConditionItem) → ConditionIn d z a → IsPart a → NamesAtoms z
part_names d (constant t) z h p = absurd p
part_names d (whole x) z h p = (h.0, h.1)
part_names d (sub x l r) z h p = (h.0, h.1)

pub row_names : (d : List Entry) (row : Atoms) (zs : List ConditionItem) → ConditionsFit row d zs → HasPart row → SomeIn NamesAtoms zs
row_names d end zs h p = absurd p
row_names d (more a row) [] h p = absurd h
row_names d (more a row) (z ∷ zs) h (inl p) = (z, (0, refl), part_names d a z h.0 p)
row_names d (more a row) (z ∷ zs) h (inr p) = names_more z zs (row_names d row zs h.1 p)

pub row_length : (d : List Entry) (row : Atoms) (xs ys : List ConditionItem) → ConditionsFit row d xs → ConditionsFit row d ys → length xs ≡ length ys
row_length d end [] [] h g = refl
row_length d end [] (y ∷ ys) h g = absurd g
row_length d end (x ∷ xs) ys h g = absurd h
row_length d (more a row) [] ys h g = absurd h
row_length d (more a row) (x ∷ xs) [] h g = absurd g
row_length d (more a row) (x ∷ xs) (y ∷ ys) h g = ap suc (row_length d row xs ys h.1 g.1)
