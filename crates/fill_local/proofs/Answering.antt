-- Branches and answers over grounds whose rows stand in pairs.
use Rattle.std.proofs.Common.{◌≡◌, ◌∙◌, ℕ, zero, suc, ◌≤◌, List, [], ◌∷◌, Contains, Option, ap, arith, refl, subst, sym}
use Rattle.std.specs.List.{AllZip}
use Rattle.fill_tree.specs.Tree.{Atoms}
use Rattle.fill_tree.specs.Value.{IsValue, ProgramIs}
use Rattle.fill_tree.specs.declared.user.Example.{Example}
use Rattle.fill_split.specs.Placement.{Placed}
use Rattle.fill_split.proofs.Zips.{zip_lengths}
use Rattle.fill_local.proofs.Paired.{AreAlike, ArePaired, IsAlike, SaySame, SaysSame}
use Rattle.fill_space.specs.Doubt.{IsDoubtful}
use Rattle.fill_space.specs.Ground.{FitsOn, WeighsOn}
use Rattle.fill_space.specs.declared.ground.Ground.{Ground}
use Rattle.fill_session.specs.Answers.{AnswerIs, IsBranchAt, StateIs, TakesRow}
use Rattle.fill_session.specs.Branches.{AreBranches, AreGuarded, ArePlaced, BranchData, IsGuardBefore, lists_of, rule_of_profile}
use Rattle.fill_session.specs.Edits.{HasExample, rows_of}
use Rattle.fill_session.specs.declared.answer.Answer.{Answer}
use Rattle.fill_session.specs.declared.answer.State.{State}
use Rattle.fill_session.specs.declared.answer.State.TheVariants.{Doubt, Given, Sure}
use Rattle.fill_local.proofs.Explaining.{chosen_to, doubtful_to, fits_to, paired_back, same_back, value_to, weighs_to}
use Rattle.fill_local.proofs.Guarding.{before_to, rows_zip, takes_to}
use Rattle.fill_local.proofs.Placing.{placed_to}
use Rattle.fill_local.proofs.Zipped.{zip_all, zip_split}

-- an item of one list and the item of the other at its place
contains_zip : (R : ℕ → ℕ → Type 0) (r q : ℕ) → ((x y : ℕ) → R x y → x ≡ r → y ≡ q) → (xs ys : List ℕ) → AllZip R xs ys → Contains xs r → Contains ys q
contains_zip R r q once [] [] z c = absurd (omega (arith, c.1))
contains_zip R r q once [] (y ∷ ys) z c = absurd z
contains_zip R r q once (x ∷ xs) [] z c = absurd z
contains_zip R r q once (x ∷ xs) (y ∷ ys) z (zero, lt, is) = (zero, omega arith, once x y z.0 is)
contains_zip R r q once (x ∷ xs) (y ∷ ys) z (suc k, lt, is) =
    let c = contains_zip R r q once xs ys z.1 (k, omega (arith, lt), is) in (suc c.0, omega (arith, c.1), c.2)

module _ (g h : Ground) (Pair : ℕ → ℕ → Type 0) (m : ArePaired g h Pair) where
  pub has_to : (es ds : List Example) → SaySame Pair es ds → (r q : ℕ) → Pair r q → HasExample es r → HasExample ds q
  has_to es ds z r q pair has = contains_zip Pair r q (λ x y one e. (m.once x r y q one pair).0 e) (rows_of es) (rows_of ds) (rows_zip Pair es ds z) has

  pub placed_on : (es ds : List Example) → SaySame Pair es ds → (lists : List (List Example)) → ArePlaced g es lists → (now : List (List Example)) × ArePlaced h ds now × AllZip (SaySame Pair) lists now
  placed_on es ds z lists p =
      let t = placed_to (SaysSame Pair) (FitsOn g) (FitsOn h) (WeighsOn g) (WeighsOn h) (λ a b z. fits_to g h Pair m a b z)
      (λ a b z. fits_to h g (λ q r. Pair r q) (paired_back g h Pair m) b a (same_back Pair a b z))
      (λ a b z. weighs_to g h Pair m a b z)
      (λ a b z. weighs_to h g (λ q r. Pair r q) (paired_back g h Pair m) b a (same_back Pair a b z))
      (rule_of_profile g.settings.profile) [] [] tt es ds z lists p in
      (t.0, subst (λ s. Placed (rule_of_profile s.profile) (FitsOn h) (WeighsOn h) ds t.0) m.same.settings t.1, t.2)

  guarded_to : (bs : List BranchData) (lists : List (List Example)) → AllZip (SaySame Pair) (lists_of bs) lists → AreGuarded g bs
      → (cs : List BranchData) × (lists_of cs ≡ lists) × AreGuarded h cs × AreAlike Pair bs cs
  guarded_to [] [] z a = ([], refl, tt, tt)
  guarded_to [] (l ∷ ls) z a = absurd z
  guarded_to (b ∷ bs) [] z a = absurd z
  guarded_to (b ∷ bs) (l ∷ ls) z a =
      let t = guarded_to bs ls z.1 a.2 in
      let c : BranchData = record { examples = l; guard = b.guard; program = b.program } in
      let alike : IsAlike Pair b c = record { examples = z.0; guard = refl; program = refl } in
      let before = before_to g h Pair m (rows_of b.examples) (rows_of l) (rows_zip Pair b.examples l z.0) (lists_of bs) ls z.1 b.guard a.0 in
      (c ∷ t.0, ap (λ x. l ∷ x) t.1, (subst (λ x. IsGuardBefore h (rows_of l) x b.guard) (sym t.1) before, chosen_to g h Pair m b.examples l z.0 b.program a.1, t.2), (alike, t.3))

  pub branches_to : (es ds : List Example) → SaySame Pair es ds → (bs : List BranchData) → AreBranches g es bs → (cs : List BranchData) × AreBranches h ds cs × AreAlike Pair bs cs
  branches_to es ds z bs b =
      let p = placed_on es ds z (lists_of bs) b.placed in
      let t = guarded_to bs p.0 p.2 b.guarded in
      let cs : AreBranches h ds t.0 = record {
        placed = subst (λ x. ArePlaced h ds x) (sym t.1) p.1;
        few = subst (λ n. n ≤ 8) (sym (zip_lengths (IsAlike Pair) bs t.0 t.3)) b.few;
        guarded = t.2;
      } in
      (t.0, cs, t.3)

  takes_alike : (r q : ℕ) → Pair r q → (b c : BranchData) → IsAlike Pair b c → TakesRow g.sheet r b.guard ≡ TakesRow h.sheet q c.guard
  takes_alike r q pair b c same = takes_to g h Pair m r q pair b.guard ∙ ap (λ o. TakesRow h.sheet q o) same.guard

  pub at_to : (r q : ℕ) → Pair r q → (bs cs : List BranchData) → AreAlike Pair bs cs → (n : ℕ) (b : BranchData) → IsBranchAt g.sheet r bs n b
      → (c : BranchData) × IsBranchAt h.sheet q cs n c × IsAlike Pair b c
  at_to r q pair bs cs z n b at =
      let s = zip_split (IsAlike Pair) at.0 b at.1 cs (subst (λ l. AreAlike Pair l cs) at.2 z) in
      let none = zip_all (IsAlike Pair) (λ x. ¬ (TakesRow g.sheet r x.guard)) (λ y. ¬ (TakesRow h.sheet q y.guard)) (λ x y same free t. free (coe 1 0 (i. takes_alike r q pair x y same i) t)) at.0 s.0 s.4 at.3 in
      (s.1, (s.0, s.2, s.3, none, coe 0 1 (i. takes_alike r q pair b s.1 s.5 i) at.4, at.5 ∙ ap suc (sym (zip_lengths (IsAlike Pair) at.0 s.0 s.4))), s.5)

  pub value_alike : (r q : ℕ) → Pair r q → (p p' : Atoms) → p ≡ p' → (o : Option (List ℕ)) → IsValue (ProgramIs g.sheet g.tables r p) o → IsValue (ProgramIs h.sheet h.tables q p') o
  value_alike r q pair p p' same o v = subst (λ x. IsValue (ProgramIs h.sheet h.tables q x) o) same (coe 0 1 (i. IsValue (value_to g h Pair m r q pair p i) o) v)

module _ (g h : Ground) (Pair : ℕ → ℕ → Type 0) (m : ArePaired g h Pair) where
  not_has : (es ds : List Example) → SaySame Pair es ds → (r q : ℕ) → Pair r q → ¬ (HasExample es r) → ¬ (HasExample ds q)
  not_has es ds z r q pair hasn = λ has. hasn (has_to h g (λ q r. Pair r q) (paired_back g h Pair m) ds es (same_back Pair es ds z) q r pair has)

  not_doubtful : (es ds : List Example) → SaySame Pair es ds → (r q : ℕ) → Pair r q → ¬ (IsDoubtful g es r) → ¬ (IsDoubtful h ds q)
  not_doubtful es ds z r q pair sure = λ d. sure (doubtful_to h g (λ q r. Pair r q) (paired_back g h Pair m) ds es (same_back Pair es ds z) q r pair d)

  state_to : (es ds branch others : List Example) → SaySame Pair es ds → SaySame Pair branch others → (r q : ℕ) → Pair r q → (s : State) → StateIs g es branch r s → StateIs h ds others q s
  state_to es ds branch others z zb r q pair Given s = has_to g h Pair m es ds z r q pair s
  state_to es ds branch others z zb r q pair Doubt s = (not_has es ds z r q pair s.0, doubtful_to g h Pair m branch others zb r q pair s.1)
  state_to es ds branch others z zb r q pair Sure s = (not_has es ds z r q pair s.0, not_doubtful branch others zb r q pair s.1)

  pub answer_to : (es ds : List Example) → SaySame Pair es ds → (r q : ℕ) → Pair r q → (a : Answer) → AnswerIs g es r a → AnswerIs h ds q a
  answer_to [] [] z r q pair a w = w
  answer_to [] (d ∷ ds) z r q pair a w = absurd z
  answer_to (e ∷ es) [] z r q pair a w = absurd z
  answer_to (e ∷ es) (d ∷ ds) z r q pair a w =
      let t = branches_to g h Pair m (e ∷ es) (d ∷ ds) z w.0 w.2 in
      let c = at_to g h Pair m r q pair w.0 t.0 t.2 a.branch w.1 w.3 in
      (t.0, c.0, t.1, c.1, value_alike g h Pair m r q pair w.1.program c.0.program c.2.program a.text w.4, state_to (e ∷ es) (d ∷ ds) w.1.examples c.0.examples z c.2.examples r q pair a.state w.5)
