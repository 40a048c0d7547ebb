-- Lookups, as they are read and as they are printed; and that each source has one form.
use Rattle.std.proofs.Common.{◌≡◌, ◌≢◌, ℕ, zero, suc, ◌-◌, ◌<◌, ◌≤◌, inl, inr, Bool, true, false, ◌||◌, List, [], ◌∷◌, ◌++◌, refl, sym, ap, subst, ◌∙◌, arith, codes}
use Rattle.std.specs.Prelude.{if◌then◌else◌, ◌==◌}
use Rattle.std.specs.Fmt.{decimal}
use Rattle.std.proofs.lemmas.Bool.{cases_eq, ne_eqb}
use Rattle.std.proofs.lemmas.List.{append_assoc}
use Rattle.fill_tokens.specs.declared.token_set.TokenSet.{TokenSet}
use Rattle.fill_tree.specs.Grammar.{number_of_atoms, greatest_depth, HasPart, is_part, has_part}
use Rattle.fill_tree.specs.Tree.{SourceTree, AtomTree, Atoms, col, select, constant, whole, sub, end, more, atoms_of}
use Rattle.fill_print.specs.Conditions.{SourceFront, Room, at_start, after_one, comma, ConditionStep, Conditions}
use Rattle.fill_print.specs.Grammar.{greatest, Lookup}
use Rattle.fill_print.specs.Notation.{source_text, atom_text, after_commas}
use Rattle.fill_print.specs.Rules.{AreConditions}
use Rattle.fill_print.proofs.Chains.{OneForm, IsAt, link, many_one, both_one, plain_one, gives_one}
use Rattle.fill_print.proofs.Decimals.{number_one}
use Rattle.fill_print.proofs.Dispatch.{split_one, same_one}
use Rattle.fill_print.proofs.SourceRules.{source_column, source_flat, column_one, condition_step_one, atom_one_from, part_one_from}
use Rattle.fill_print.specs.Conditions.{PartFront}

-- lists that stand for atoms
pub list_of : Atoms → List AtomTree
list_of end = []
list_of (more a rest) = a ∷ list_of rest

pub listed : (x : Atoms) → atoms_of (list_of x) ≡ x
unfolding list_of
listed end = refl
listed (more a rest) = ap (λ y. more a y) (listed rest)

part_there : (x : Atoms) → HasPart x → has_part x ≡ true
part_there end h = absurd h
part_there (more (constant t) rest) (inl h) = absurd h
part_there (more (whole t) rest) h = refl
part_there (more (sub t p q) rest) h = refl
part_there (more (constant t) rest) (inr h) = part_there rest h

there_part : (x : Atoms) → has_part x ≡ true → HasPart x
there_part end e = let no_such : ⊥ = cc in absurd no_such
there_part (more (constant t) rest) e = inr (there_part rest e)
there_part (more (whole t) rest) e = inl tt
there_part (more (sub t p q) rest) e = inl tt

-- a comma is read before the first condition
abbrev lead : ℕ → List ℕ
lead room = if room == 3 then 44 ∷ [] else []

lead_comma : (room : ℕ) (m : List ℕ) → lead room ++ (comma room ++ m) ≡ 44 ∷ m
lead_comma room m = elim (cases_eq room 3) [
  | inl e ↦ rw e refl
  | inr ne ↦ rw (ne_eqb room 3 ne) refl
]

after_lead : (room : ℕ) (s m : List ℕ) → lead room ++ s ≡ 44 ∷ m → s ≡ comma room ++ m
after_lead room s m e = elim (cases_eq room 3) [
  | inl h ↦ go h e
  | inr ne ↦ let b = ne_eqb room 3 ne in rw b (rw b at e)
]
  where
    go : room ≡ 3 → lead room ++ s ≡ 44 ∷ m → s ≡ comma room ++ m
    go h f = let g : 44 ∷ s ≡ 44 ∷ m = subst (λ r. lead r ++ s ≡ 44 ∷ m) h f in subst (λ r. s ≡ comma r ++ m) (sym h) (let same : s ≡ m = cc in same)

no_lead : (room : ℕ) → room ≢ 3 → lead room ≡ []
no_lead room ne = rw (ne_eqb room 3 ne) refl

-- what is left of a lookup's conditions
record AreLeft (token_set : TokenSet) (depth : ℕ) (r : Room) (conditions : Atoms) : Type 0 where
  atoms : AreConditions token_set conditions
  deep : greatest_depth conditions ≤ depth
  few : number_of_atoms conditions ≤ r.room
  part : (r.seen || has_part conditions) ≡ true

or_later : (x y z : Bool) → ((x || y) || z) ≡ true → (x || (y || z)) ≡ true
or_later true y z e = refl
or_later false y z e = e

or_sooner : (x y z : Bool) → (x || (y || z)) ≡ true → ((x || y) || z) ≡ true
or_sooner true y z e = refl
or_sooner false y z e = e

or_false : (x : Bool) → x ≡ true → (x || false) ≡ true
or_false x e = rw e refl

next_text : (a : AtomTree) (rest : Atoms) (k : List ℕ) → 44 ∷ (atom_text a ++ (after_commas rest ++ 41 ∷ k)) ≡ after_commas (more a rest) ++ 41 ∷ k
next_text a rest k = simp append_assoc

lookup_text : (c t n : ℕ) (x : Atoms) (k : List ℕ) → codes "Select(" ++ (decimal c ++ 44 ∷ (decimal t ++ 44 ∷ (decimal n ++ (after_commas x ++ 41 ∷ k)))) ≡ source_text (select c t n x) ++ k
lookup_text c t n x k = simp append_assoc

comma_first : (x : Atoms) (k : List ℕ) → HasPart x → (m : List ℕ) × (after_commas x ++ 41 ∷ k ≡ 44 ∷ m)
comma_first end k h = absurd h
comma_first (more a rest) k h = (atom_text a ++ (after_commas rest ++ 41 ∷ k), sym (next_text a rest k))

module _ (token_set : TokenSet) where
  module _ (depth : ℕ) where
    conditions_forth : (xs : List AtomTree) (r : Room) (s k : List ℕ) → r.room ≤ 3 → (r.room ≡ 3 → r.seen ≡ false) → Conditions token_set depth r xs s k
        → AreLeft token_set depth r (atoms_of xs) × (lead r.room ++ s ≡ after_commas (atoms_of xs) ++ 41 ∷ k)
    conditions_forth [] r s k small fresh h =
        let not_first : r.room ≢ 3 = λ e. (let bad : true ≡ false = sym h.0 ∙ fresh e in let no_such : ⊥ = cc in no_such) in
        (record { atoms = tt; deep = omega arith; few = omega arith; part = or_false r.seen h.0 }, ap (λ x. x ++ s) (no_lead r.room not_first) ∙ h.1)
    conditions_forth (a ∷ xs) r s k small fresh h =
        let some : 0 < r.room = h.1.0 in
        let rest = conditions_forth xs (after_one r a) h.0 k (omega arith) (λ e. absurd (omega arith)) h.2 in
        let tail : h.0 ≡ after_commas (atoms_of xs) ++ 41 ∷ k = ap (λ x. x ++ h.0) (sym (no_lead (r.room - 1) (λ e. omega arith))) ∙ rest.1 in (
          record { atoms = (h.1.4.0, rest.0.atoms); deep = (let d = rest.0.deep in let e = h.1.4.1 in omega (arith, d, e)); few = (let f = rest.0.few in omega arith); part = or_later r.seen (is_part a) (has_part (atoms_of xs)) rest.0.part },
          ap (λ x. lead r.room ++ x) h.1.2 ∙ lead_comma r.room h.1.1 ∙ ap (λ x. 44 ∷ x) (h.1.4.2 ∙ ap (λ x. atom_text a ++ x) tail) ∙ next_text a (atoms_of xs) k,
        )

    alone : (xs : List AtomTree) (seen p : Bool) → number_of_atoms (atoms_of xs) ≡ 0 → (seen || (p || has_part (atoms_of xs))) ≡ true → seen ≡ false → p ≡ true
    alone [] true p e h n = let no_such : ⊥ = cc in absurd no_such
    alone [] false true e h n = refl
    alone [] false false e h n = let no_such : ⊥ = cc in absurd no_such
    alone (a ∷ xs) seen p e h n = absurd (omega arith)

    conditions_back : (xs : List AtomTree) (r : Room) (s k : List ℕ) → r.room ≤ 3 → (r.room ≡ 3 → r.seen ≡ false) → AreLeft token_set depth r (atoms_of xs) → lead r.room ++ s ≡ after_commas (atoms_of xs) ++ 41 ∷ k
        → Conditions token_set depth r xs s k
    conditions_back [] r s k small fresh h e = go r.seen refl
      where
        go : (b : Bool) → r.seen ≡ b → (r.seen ≡ true) × (s ≡ 41 ∷ k)
        go true f =
            let not_first : r.room ≢ 3 = λ g. (let bad : true ≡ false = sym f ∙ fresh g in let no_such : ⊥ = cc in no_such) in
            (f, ap (λ x. x ++ s) (sym (no_lead r.room not_first)) ∙ e)
        go false f = let bad : (false || false) ≡ true = subst (λ b. (b || false) ≡ true) f h.part in let no_such : ⊥ = cc in absurd no_such
    conditions_back (a ∷ xs) r s k small fresh h e =
        let some : 0 < r.room = (let f = h.few in omega arith) in
        let m : List ℕ = after_commas (atoms_of xs) ++ 41 ∷ k in
        let here : s ≡ comma r.room ++ (atom_text a ++ m) = after_lead r.room s (atom_text a ++ m) (e ∙ sym (next_text a (atoms_of xs) k)) in
        let allowed : r.room ≡ 1 → r.seen ≡ false → is_part a ≡ true = λ one n. alone xs r.seen (is_part a) (let f = h.few in omega arith) h.part n in
        let later : AreLeft token_set depth (after_one r a) (atoms_of xs) = record { atoms = h.atoms.1; deep = (let d = h.deep in omega (arith, d)); few = (let f = h.few in omega arith); part = or_sooner r.seen (is_part a) (has_part (atoms_of xs)) h.part } in
        let tail : lead (r.room - 1) ++ m ≡ m = ap (λ x. x ++ m) (no_lead (r.room - 1) (λ g. omega arith)) in
        (m, (some, (atom_text a ++ m), here, allowed, (h.atoms.0, (let d = h.deep in omega (arith, d)), refl)), conditions_back xs (after_one r a) m k (omega arith) (λ g. absurd (omega arith)) later tail)

  pub source_lookup : (depth : ℕ) → depth ≢ 0 → IsAt (SourceFront token_set depth) (Lookup token_set (depth - 1)) 83
  source_lookup depth deep = record {
    forth = λ b s k h.
        let c = h.later.item in
        let h2 = h.later.later in
        let t = h2.item in
        let h3 = h2.later in
        let n = h3.item in
        let h4 = h3.later in
        let xs = h4.item in
        let f = conditions_forth (depth - 1) xs at_start h3.middle h4.middle (omega arith) (λ e. refl) h4.here in
        let part : has_part (atoms_of xs) ≡ true = f.0.part in
        let tail : 44 ∷ h3.middle ≡ after_commas (atoms_of xs) ++ 41 ∷ k = f.1 ∙ ap (λ x. after_commas (atoms_of xs) ++ 41 ∷ x) h4.later.1 in
        let text : s ≡ source_text (select c t n (atoms_of xs)) ++ k =
        h.here ∙ ap (λ x. codes "Select(" ++ x) (h.later.here.2 ∙ ap (λ x. decimal c ++ 44 ∷ x) (h2.here.2 ∙ ap (λ x. decimal t ++ 44 ∷ x) (h3.here.2 ∙ ap (λ x. decimal n ++ x) tail))) ∙ lookup_text c t n (atoms_of xs) k in
        subst (λ x. SourceFront token_set depth x s k) (sym h4.later.0)
        (((h.later.here.0, omega (arith, h.later.here.1)), (h2.here.0, omega (arith, h2.here.1)), (h3.here.0, omega (arith, h3.here.1)), f.0.few, there_part (atoms_of xs) part, f.0.atoms), (let d = f.0.deep in omega (arith, d)), text);
    back = λ b s k h. go b s k h;
  }
    where
      go : (b : SourceTree) (s k : List ℕ) → SourceFront token_set depth b (83 ∷ s) k → Lookup token_set (depth - 1) b (83 ∷ s) k
      go (col n) s k h = let e : ◌≡◌ {A = ℕ} 83 67 = (let f : 83 ∷ s ≡ source_text (col n) ++ k = h.2 in cc) in absurd (omega arith)
      go (select c t n x) s k h =
          let f = comma_first x k h.0.4 in
          let same : atoms_of (list_of x) ≡ x = listed x in
          let left : AreLeft token_set (depth - 1) at_start x = record { atoms = h.0.5; deep = (let d = h.1 in omega (arith, d)); few = h.0.3; part = part_there x h.0.4 } in
          let fits : AreLeft token_set (depth - 1) at_start (atoms_of (list_of x)) = subst (λ y. AreLeft token_set (depth - 1) at_start y) (sym same) left in
          let text : lead 3 ++ f.0 ≡ after_commas (atoms_of (list_of x)) ++ 41 ∷ k = sym f.1 ∙ ap (λ y. after_commas y ++ 41 ∷ k) (sym same) in
          let m1 : List ℕ = decimal n ++ 44 ∷ f.0 in
          let m0 : List ℕ = decimal t ++ 44 ∷ m1 in
          link tt (decimal c ++ 44 ∷ m0) (h.2 ∙ sym (lookup_text c t n x k) ∙ ap (λ y. codes "Select(" ++ (decimal c ++ 44 ∷ (decimal t ++ 44 ∷ (decimal n ++ y)))) f.1)
          (link c m0 (h.0.0.0, omega (arith, h.0.0.1), refl) (link t m1 (h.0.1.0, omega (arith, h.0.1.1), refl) (link n f.0 (h.0.2.0, omega (arith, h.0.2.1), refl)
          (link (list_of x) k (conditions_back (depth - 1) (list_of x) at_start f.0 k (omega arith) (λ e. refl) fits text) (ap (λ y. select c t n y) (sym same), refl)))))

  lookup_one : (depth : ℕ) → OneForm (SourceFront token_set depth) → OneForm (Lookup token_set depth)
  lookup_one depth one =
      both_one (plain_one (codes "Select(")) (λ u. both_one (number_one greatest 44 (omega arith) (omega arith)) (λ c. both_one (number_one greatest 44 (omega arith) (omega arith)) (λ t.
      both_one (number_one greatest 44 (omega arith) (omega arith)) (λ n. both_one (many_one (ConditionStep token_set depth) after_one (condition_step_one token_set depth (atom_one_from token_set depth one)) at_start) (λ xs. gives_one _)))))

  pub source_one : (depth : ℕ) → OneForm (SourceFront token_set depth)
  source_one zero = same_one (source_flat token_set zero refl) column_one
  source_one (suc depth) =
      let less : suc depth - 1 ≡ depth = omega arith in
      let lookups : OneForm (Lookup token_set (suc depth - 1)) = subst (λ d. OneForm (Lookup token_set d)) (sym less) (lookup_one depth (source_one depth)) in
      split_one (source_lookup (suc depth) (λ e. let no_such : ⊥ = omega arith in no_such)) (source_column token_set (suc depth)) lookups column_one

  pub part_one : (depth : ℕ) → OneForm (PartFront token_set depth)
  part_one depth = part_one_from token_set depth (source_one depth)

  pub conditions_step_one : (depth : ℕ) (r : Room) → OneForm (ConditionStep token_set depth r)
  conditions_step_one depth r = condition_step_one token_set depth (atom_one_from token_set depth (source_one depth)) r
