-- Rows of conditions that serve for others.
use Rattle.std.proofs.Common.{◌≡◌, ◌↔◌, ℕ, zero, suc, slice_get, List, [], ◌∷◌, ◌++◌, Option, None, Some, inl, inr, refl, sym, ap, subst, ◌∙◌}
use Rattle.fill_tree.specs.Grammar.{HasPart, IsPart}
use Rattle.fill_tree.specs.Meaning.{atom_tree, program_tree}
use Rattle.fill_tree.specs.Tree.{AtomTree, Atoms, constant, whole, sub, end, more}
use Rattle.fill_tree.specs.Value.{IsValue, AtomIs, ConditionIs, ConditionsAre}
use Rattle.fill_tree.specs.declared.tree.Program.{Program}
use Rattle.fill_arena.specs.Contents.{SomeIn}
use Rattle.fill_arena.specs.Stands.{AtomFits, ConditionFits, ConditionsFit, AtomStands, PartStands}
use Rattle.fill_arena.specs.declared.entry.ConditionItem.{ConditionItem}
use Rattle.fill_tree.specs.Order.{row_rank}
use Rattle.fill_arena.proofs.Best.{at_most-itself, at_most-trans}
use Rattle.fill_object.specs.Kinds.{IsRowFor, atoms_on, rows_on}
use Rattle.fill_object.specs.Leasts.{AreLeasts, Gains}
use Rattle.fill_object.specs.Rows.{AreParts, AreRows, IsFixed, IsFront, IsLonger}
use Rattle.fill_object.specs.declared.row.OnRow.{OnRow}
use Rattle.fill_object.specs.declared.valued.ValuedAtom.{ValuedAtom}
use Rattle.fill_object.proofs.Alike.{same_value, front_alike, part_value}
use Rattle.fill_object.proofs.Gains.{Laws, gains_take, gains_same, gains_then, gains_through, leasts_whole, pushed}
use Rattle.fill_object.proofs.Orders.{same_row-at_most, part_row-at_most}
use Rattle.fill_tree.proofs.Ranked.{row_rank-total, row_rank-exact}

module _ (on : OnRow) where
  pub row_itself : (x : Atoms) → IsRowFor on x x
  row_itself x = record { at_most = at_most-itself (row_rank on.prices.now) (row_rank-total on.prices.now) (row_rank-exact on.prices.now) x; part = λ h. h; texts = λ ts. ((λ h. h), (λ h. h)) }

  pub row_then : (x y z : Atoms) → IsRowFor on y x → IsRowFor on z y → IsRowFor on z x
  row_then x y z h l = record {
    at_most = at_most-trans (row_rank on.prices.now) (row_rank-total on.prices.now) (row_rank-exact on.prices.now) x y z h.at_most l.at_most;
    part = λ p. h.part (l.part p);
    texts = λ ts. ((λ a. (l.texts ts).0 ((h.texts ts).0 a)), (λ a. (h.texts ts).1 ((l.texts ts).1 a)));
  }

  pub row_laws : Laws (rows_on on)
  row_laws = record {
    itself = λ x. row_itself (program_tree x);
    then = λ x y z h l. row_then (program_tree x) (program_tree y) (program_tree z) h l;
    on = λ x y a h l. row_then (program_tree x) (program_tree y) a h l;
  }

  -- one more row
  pub gains_row : (x : Program) (y : Atoms) (old new : List Program) → new ≡ old ++ x ∷ [] → program_tree x ≡ y → Gains (rows_on on) (λ z. z ≡ y) old new
  gains_row x y old new e is =
      subst (Gains (rows_on on) (λ z. z ≡ y) old) (sym e)
      (gains_take (rows_on on) row_laws (λ z. z ≡ y) old (old ++ x ∷ []) x (pushed (rows_on on).Like old x) is tt
      (λ z same. subst (λ u. IsRowFor on u (program_tree x)) (is ∙ sym same) (row_itself (program_tree x))))

  -- the constant's rows
  pub fixed_front : (fixed : Option (List ℕ)) (t : List ℕ) (a : AtomTree) → fixed ≡ Some t → a ≡ constant t → (rests old new : List Program) →
      Gains (rows_on on) (IsFront a rests) old new → Gains (rows_on on) (IsFixed fixed rests) old new
  fixed_front fixed t a is e rests old new gains =
      gains_same (rows_on on) row_laws (IsFront a rests) (IsFixed fixed rests) (λ y h. (t, is, subst (λ b. IsFront b rests y) e h))
      (λ y h. let other = h.1 in let same : h.0 ≡ t = cc in subst (λ b. IsFront b rests y) (ap constant same ∙ sym e) h.2) old new gains

  -- the constant's rows and then those of the parts
  pub fixed_or_part : (fixed : Option (List ℕ)) (parts : List ValuedAtom) (rests old mid new : List Program) → Gains (rows_on on) (IsFixed fixed rests) old mid →
      Gains (rows_on on) (λ y. SomeIn (λ x. IsFront (atom_tree x.atom) rests y) parts) mid new → Gains (rows_on on) (IsLonger fixed parts rests) old new
  fixed_or_part fixed parts rests old mid new first second =
      gains_then (rows_on on) row_laws (IsFixed fixed rests) (λ y. SomeIn (λ x. IsFront (atom_tree x.atom) rests y) parts) (IsLonger fixed parts rests) (λ y h. h) (λ y h. inl h) (λ y h. inr h) old mid new first second

  abbrev ConditionGives : AtomTree → List ℕ → Type 0
  ConditionGives a = ConditionIs on.sheet.now on.tables.now on.row a

  abbrev Are : Atoms → List (List ℕ) → Type 0
  Are q = ConditionsAre on.sheet.now on.tables.now on.row q

  later : (a b : AtomTree) (p q : Atoms) → (IsPart b → IsPart a) → (HasPart q → HasPart p) → HasPart (more b q) → HasPart (more a p)
  later a b p q f g (inl h) = inl (f h)
  later a b p q f g (inr h) = inr (g h)

  constant_front : (t : List ℕ) (p q : Atoms) → IsRowFor on q p → IsRowFor on (more (constant t) q) (more (constant t) p)
  constant_front t p q h = record {
    at_most = same_row-at_most on.prices.now (constant t) p q h.at_most;
    part = later (constant t) (constant t) p q (λ z. z) h.part;
    texts = front_alike (ConditionGives (constant t)) (ConditionGives (constant t)) (Are p) (Are q) (λ v. ((λ z. z), (λ z. z))) h.texts;
  }

  condition_same : (a b : AtomTree) → IsPart a → IsPart b → (o : Option (List ℕ)) → IsValue (AtomIs on.sheet.now on.tables.now on.row a) o → IsValue (AtomIs on.sheet.now on.tables.now on.row b) o → (v : List ℕ) → ConditionGives a v ↔ ConditionGives b v
  condition_same a b first second o p q v =
      let same = same_value (AtomIs on.sheet.now on.tables.now on.row a) (AtomIs on.sheet.now on.tables.now on.row b) o p q v in
      let one = part_value on.sheet.now on.tables.now on.row a first v in
      let two = part_value on.sheet.now on.tables.now on.row b second v in
      ((λ h. two.0 (same.0 (one.1 h))), (λ h. one.0 (same.1 (two.1 h))))

  -- a condition of an item before a row of the others
  module _ (i : ConditionItem) (is : List ConditionItem) (parts : List ValuedAtom) (rests : List Program) (first : AreParts on i parts) (rest : AreRows on is rests) where
    longer_fits : (y : Atoms) → IsLonger i.constant parts rests y → ConditionsFit y on.arena.now (i ∷ is)
    longer_fits y (inl h) =
        let front = h.2 in
        subst (λ z. ConditionsFit z on.arena.now (i ∷ is)) (sym front.2) (h.1, (rest.each front.1.0 front.0 front.1.1).0)
    longer_fits y (inr h) =
        let front = h.2 in
        subst (λ z. ConditionsFit z on.arena.now (i ∷ is)) (sym front.2) ((first.each h.1.0 h.0 h.1.1).0.1, (rest.each front.1.0 front.0 front.1.1).0)

    abbrev Fitting : Atoms → Type 0
    Fitting y = (b : Atoms) × IsLonger i.constant parts rests b × ((x : Program) → (rows_on on).For b x → (rows_on on).For y x)

    part_front : (a : AtomTree) (q : Atoms) → IsPart a → ConditionFits a on.arena.now i (AtomFits a on.arena.now) → ConditionsFit q on.arena.now is → Fitting (more a q)
    part_front a q part fits others =
        let x = first.least a (part, fits) in
        let r = rest.least q others in
        let right = first.each x.1.0 x.0 x.1.1 in
        let own = atom_tree x.0.atom in
        let row = program_tree r.0 in
        let serves : IsRowFor on (more a q) (more (atom_tree x.0.atom) (program_tree r.0)) = record {
          at_most = part_row-at_most on.prices.now own a row q right.0.0 part x.2.0 r.2.at_most;
          part = later own a row q (λ z. right.0.0) r.2.part;
          texts = front_alike (ConditionGives own) (ConditionGives a) (Are row) (Are q) (condition_same own a right.0.0 part x.0.text right.1 x.2.1) r.2.texts;
        } in
        (more (atom_tree x.0.atom) (program_tree r.0), inr (x.0, x.1, (r.0, r.1, refl)), λ z h. row_then (program_tree z) (more own row) (more a q) h serves)

    fits_longer : (y : Atoms) → ConditionsFit y on.arena.now (i ∷ is) → Fitting y
    fits_longer end h = absurd h
    fits_longer (more (constant t) q) h =
        let r = rest.least q h.1 in
        let serves = constant_front t (program_tree r.0) q r.2 in
        (more (constant t) (program_tree r.0), inl (t, h.0, (r.0, r.1, refl)), λ z l. row_then (program_tree z) (more (constant t) (program_tree r.0)) (more (constant t) q) l serves)
    fits_longer (more (whole x) q) h = part_front (whole x) q tt h.0 h.1
    fits_longer (more (sub x l r) q) h = part_front (sub x l r) q tt h.0 h.1

    pub longer_rows : (made : List Program) → Gains (rows_on on) (IsLonger i.constant parts rests) [] made → AreRows on (i ∷ is) made
    longer_rows made gains =
        leasts_whole (rows_on on) row_laws (λ y. ConditionsFit y on.arena.now (i ∷ is)) made
        (gains_through (rows_on on) row_laws (IsLonger i.constant parts rests) (λ y. ConditionsFit y on.arena.now (i ∷ is)) longer_fits fits_longer [] made gains)

  -- without conditions
  one_row : (x y : Program) (n : ℕ) → program_tree x ≡ end → slice_get (x ∷ []) n ≡ Some y → ConditionsFit (program_tree y) on.arena.now []
  one_row x y zero e h = let same : x ≡ y = cc in subst (λ z. ConditionsFit z on.arena.now []) (sym (sym (ap program_tree same) ∙ e)) tt
  one_row x y (suc n) e h = absurd cc

  end_row : (x : Program) (y : Atoms) → program_tree x ≡ end → ConditionsFit y on.arena.now [] → SomeIn (λ r. IsRowFor on y (program_tree r)) (x ∷ [])
  end_row x end e h = (x, (0, refl), subst (IsRowFor on end) (sym e) (row_itself end))
  end_row x (more a q) e h = absurd h

  pub no_rows : (x : Program) → program_tree x ≡ end → AreRows on [] (x ∷ [])
  no_rows x e = record { each = λ n y h. (one_row x y n e h, tt); least = λ y h. end_row x y e h }

  -- the conditions of an item that are no constants
  module _ (i : ConditionItem) where
    part_there : (s : ℕ) → i.atoms ≡ Some s → (a : AtomTree) → PartStands on.arena.now s a → IsPart a × ConditionFits a on.arena.now i (AtomFits a on.arena.now)
    part_there s is (constant t) h = absurd h.0
    part_there s is (whole x) h = (tt, (s, is, h.1))
    part_there s is (sub x p q) h = (tt, (s, is, h.1))

    there_part : (s : ℕ) → i.atoms ≡ Some s → (a : AtomTree) → IsPart a × ConditionFits a on.arena.now i (AtomFits a on.arena.now) → PartStands on.arena.now s a
    there_part s is (constant t) h = absurd h.0
    there_part s is (whole x) h = let other = h.1.1 in let e : h.1.0 ≡ s = cc in (tt, subst (λ n. AtomStands on.arena.now n (whole x)) e h.1.2)
    there_part s is (sub x p q) h = let other = h.1.1 in let e : h.1.0 ≡ s = cc in (tt, subst (λ n. AtomStands on.arena.now n (sub x p q)) e h.1.2)

    no_part_there : i.atoms ≡ None → (a : AtomTree) → ¬ (IsPart a × ConditionFits a on.arena.now i (AtomFits a on.arena.now))
    no_part_there is (constant t) h = h.0
    no_part_there is (whole x) h = let other = h.1.1 in cc
    no_part_there is (sub x p q) h = let other = h.1.1 in cc

    pub parts_kept : (s : ℕ) → i.atoms ≡ Some s → (xs : List ValuedAtom) → AreLeasts (atoms_on on) (PartStands on.arena.now s) xs → AreParts on i xs
    parts_kept s is xs are = record {
      each = λ n x h. let own = are.each n x h in (part_there s is (atom_tree x.atom) own.0, own.1);
      least = λ a h. are.least a (there_part s is a h);
    }

    pub no_parts_kept : i.atoms ≡ None → AreParts on i []
    no_parts_kept is = record {
      each = λ n x h. absurd (nothing n x h);
      least = λ a h. absurd (no_part_there is a h);
    }
      where
        nothing : (n : ℕ) (x : ValuedAtom) → ¬ (◌≡◌ {A = Option ValuedAtom} None (Some x))
        nothing n x h = cc
