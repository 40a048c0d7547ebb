-- The values of trees on two rows that hold the same.
use Rattle.std.proofs.Common.{◌≡◌, ℕ, List, Some, IfSome, refl}
use Rattle.fill_text.specs.Data.{SheetData, TableData}
use Rattle.fill_tree.specs.Guard.{GuardHolds, HasMatches, LiteralHolds, NegatedWhere}
use Rattle.fill_tree.specs.Tree.{SourceTree, AtomTree, Atoms, col, select, constant, whole, sub, end, more}
use Rattle.fill_tree.specs.Value.{AtomIs, ConditionIs, ConditionsAre, IsFilled, IsHeadAndTail, IsJoined, IsPieceBetween, LooksUp, ProgramIs, SourceIs}
use Rattle.fill_tree.specs.declared.guard.Guard.{Guard}
use Rattle.fill_local.specs.Local.{HoldSame}

module _ (s t : SheetData) (r q : ℕ) (same : HoldSame s t r q) where
  module _ (us vs : List TableData) (tables : us ≡ vs) where
    mutual
      source_same : (x : SourceTree) → SourceIs s us r x ≡ SourceIs t vs q x
      source_same (col c) = λ i v. same c i ≡ Some v
      source_same (select column table key conditions) = λ i v. LooksUp (conditions_same conditions i) (tables i) column table key v

      condition_same : (a : AtomTree) → ConditionIs s us r a ≡ ConditionIs t vs q a
      condition_same (constant u) = refl
      condition_same (whole x) = λ i v. IsFilled (source_same x i) v
      condition_same (sub x a b) = λ i v. IsPieceBetween (source_same x i) a b v

      conditions_same : (p : Atoms) → ConditionsAre s us r p ≡ ConditionsAre t vs q p
      conditions_same end = refl
      conditions_same (more a rest) = λ i vs. IsHeadAndTail (condition_same a i) (conditions_same rest i) vs

    atom_same : (a : AtomTree) → AtomIs s us r a ≡ AtomIs t vs q a
    atom_same (constant u) = refl
    atom_same (whole x) = λ i v. IsFilled (source_same x i) v
    atom_same (sub x a b) = λ i v. IsPieceBetween (source_same x i) a b v

    pub program_same : (p : Atoms) → ProgramIs s us r p ≡ ProgramIs t vs q p
    program_same end = refl
    program_same (more a rest) = λ i v. IsJoined (atom_same a i) (program_same rest i) v

  literal_same : LiteralHolds s r ≡ LiteralHolds t q
  literal_same = λ i l. (text : List ℕ) × (same l.column i ≡ Some text) × NegatedWhere l.negated (HasMatches l.seq text l.least)

  pub guard_same : (g : Guard) → GuardHolds s r g ≡ GuardHolds t q g
  guard_same g = λ i. literal_same i g.first × IfSome g.second (literal_same i)
