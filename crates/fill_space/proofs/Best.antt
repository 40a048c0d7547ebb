-- What stands for the best programs of examples, that there is one such list, and what it begins with.
use Rattle.std.proofs.Common.{◌≡◌, ℕ, ◌≤◌, inl, inr, List, [], ◌∷◌, map, Result, Ok, Err, refl, sym, subst, ◌∙◌, arith}
use Rattle.std.specs.Prelude.{Contains, IfOk}
use Rattle.std.specs.Cmp.{IsTotalOrder}
use Rattle.std.specs.declared.cmp.Ordering.{Ordering}
use Rattle.std.specs.declared.cmp.Ordering.TheVariants.{Less}
use Rattle.std.proofs.lemmas.Map.Lookups.{CmpEqualImpliesEq}
use Rattle.fill_text.specs.declared.error.NoMemory.{NoMemory}
use Rattle.fill_tree.specs.Meaning.{program_tree}
use Rattle.fill_tree.specs.Order.{program_cmp}
use Rattle.fill_tree.specs.Tree.{Atoms}
use Rattle.fill_tree.specs.declared.tree.Program.{Program}
use Rattle.fill_tree.specs.declared.user.Example.{Example}
use Rattle.fill_tree.proofs.ProgramOrder.{exact_programs, program_total}
use Rattle.fill_arena.specs.Stands.{ProgramStands}
use Rattle.fill_best.specs.First.{AreFirst, Rises}
use Rattle.fill_best.proofs.Firsts.{first_same, not_before_itself, one_way, shorter}
use Rattle.fill_best.proofs.Items.{head_before, here, none_in, tail_rises, there, which}
use Rattle.fill_space.specs.Best.{AreBestOn, BeginsWithChosen}
use Rattle.fill_space.specs.Ground.{Ground, ExplainsOn, FitsOn}
use Rattle.fill_space.specs.Spaces.{SpacesData, SpaceStands}

-- the first programs of a space's graph
pub best_told : (s : SpacesData) (space k : ℕ) (r : Result (List Program) NoMemory)
    → IfOk r (λ made. AreFirst (program_cmp s.ground.settings.profile.prices) (ProgramStands s.arena space) k (map program_tree made))
    → IfOk r (λ made. (l : List Example) → SpaceStands s space l → AreBestOn s.ground l k (map program_tree made))
best_told s space k (Ok made) h = λ l x.
    first_same (program_cmp s.ground.settings.profile.prices) (program_total s.ground.settings.profile.prices) (exact_programs s.ground.settings.profile.prices) (ProgramStands s.arena space) k (map program_tree made) h (ExplainsOn s.ground l)
    (λ p stands. (x.exact p).0 stands) (λ p explains. (x.exact p).1 explains)
best_told s space k (Err want) h = tt

module _ {A : Type 0} (R : A → A → Ordering) (total : IsTotalOrder R) (exact : CmpEqualImpliesEq R) where
  -- what comes after the first item of a list is one of the others
  later_in : (x y : A) (ys : List A) → x ≡ y → (w : A) → R x w ≡ Less → Contains (y ∷ ys) w → Contains ys w
  later_in x y ys same w after c = elim (which y ys w c) [
    | inr d ↦ d
    | inl e ↦ absurd (not_before_itself R total exact x (subst (λ v. R x v ≡ Less) (sym (same ∙ e)) after))
  ]

  same_head : (x y : A) (xs ys : List A) → Rises R (x ∷ xs) → Rises R (y ∷ ys) → Contains (y ∷ ys) x → Contains (x ∷ xs) y → x ≡ y
  same_head x y xs ys a b c d = elim (which y ys x c) [
    | inl e ↦ sym e
    | inr later ↦ elim (which x xs y d) [
      | inl e ↦ e
      | inr after ↦ absurd (one_way R total exact x y (head_before R x xs a y after) (head_before R y ys b x later))
    ]
  ]

  -- lists that rise and have the same items are the same
  rising_same : (xs ys : List A) → Rises R xs → Rises R ys → ((w : A) → Contains xs w → Contains ys w) → ((w : A) → Contains ys w → Contains xs w) → xs ≡ ys
  rising_same [] [] a b to from = refl
  rising_same [] (y ∷ ys) a b to from = absurd (none_in y (from y (here y ys)))
  rising_same (x ∷ xs) [] a b to from = absurd (none_in x (to x (here x xs)))
  rising_same (x ∷ xs) (y ∷ ys) a b to from =
      let same : x ≡ y = same_head x y xs ys a b (to x (here x xs)) (from y (here y ys)) in
      let rest : xs ≡ ys =
      rising_same xs ys (tail_rises R x xs a) (tail_rises R y ys b)
      (λ w c. later_in x y ys same w (head_before R x xs a w c) (to w (there x xs w c)))
      (λ w c. later_in y x xs (sym same) w (head_before R y ys b w c) (from w (there y ys w c))) in
      λ i. same i ∷ rest i

  module _ (P : A → Type 0) (k : ℕ) where
    all_in : (xs ys : List A) → AreFirst R P k xs → AreFirst R P k ys → (x : A) → Contains xs x → Contains ys x
    all_in xs ys a b x c = elim (b.others x (a.have x c)) [
      | inl d ↦ d
      | inr past ↦
          let inside : (y : A) → Contains ys y → Contains xs y = λ y d. elim (a.others y (b.have y d)) [
            | inl e ↦ e
            | inr q ↦ absurd (one_way R total exact x y (q.before x c) (past.before y d))
          ] in
          let less = shorter R total exact ys xs x b.rising a.rising inside c past.before in
          let few = a.few in
          let full = past.full in
          absurd (omega arith)
    ]

    -- there is one list of the first k
    pub first_are_one : (xs ys : List A) → AreFirst R P k xs → AreFirst R P k ys → xs ≡ ys
    first_are_one xs ys a b = rising_same xs ys a.rising b.rising (all_in xs ys a b) (all_in ys xs b a)

    no_earlier : (x : A) (xs : List A) → AreFirst R P k (x ∷ xs) → (y : A) → P y → ¬ (R y x ≡ Less)
    no_earlier x xs first y has before = elim (first.others y has) [
      | inr past ↦ one_way R total exact y x before (past.before x (here x xs))
      | inl c ↦ elim (which x xs y c) [
        | inl e ↦ not_before_itself R total exact x (subst (λ v. R v x ≡ Less) (sym e) before)
        | inr d ↦ one_way R total exact y x before (head_before R x xs first.rising y d)
      ]
    ]

pub best_are_one : (g : Ground) (l : List Example) (k : ℕ) (ps qs : List Atoms) → AreBestOn g l k ps → AreBestOn g l k qs → ps ≡ qs
best_are_one g l k ps qs a b = first_are_one (program_cmp g.settings.profile.prices) (program_total g.settings.profile.prices) (exact_programs g.settings.profile.prices) (ExplainsOn g l) k ps qs a b

pub best_begins : (g : Ground) (l : List Example) (k : ℕ) (ps : List Atoms) → 1 ≤ k → FitsOn g l → AreBestOn g l k ps → BeginsWithChosen g l ps
best_begins g l k [] some fits best = absurd (elim (best.others fits.0 fits.1) [
  | inl c ↦ none_in fits.0 c
  | inr past ↦ let full = past.full in omega arith
])
best_begins g l k (p ∷ rest) some fits best = (
  p,
  rest,
  refl,
  record {
    has = best.have p (here p rest);
    least = no_earlier (program_cmp g.settings.profile.prices) (program_total g.settings.profile.prices) (exact_programs g.settings.profile.prices) (ExplainsOn g l) k p rest best;
  },
)
