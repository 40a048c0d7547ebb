-- Items of atoms that are put to others.
use Rattle.std.proofs.Common.{◌≡◌, ◌↔◌, ℕ, ◌≤◌, inl, inr, true, false, List, [], ◌∷◌, length, All, sym, ap, ◌∙◌, subst, arith}
use Rattle.std.specs.Char.{IsScalar}
use Rattle.std.proofs.lemmas.List.Elements.{All-take, All-drop}
use Rattle.fill_tree.specs.Tree.{AtomTree, constant, whole, sub}
use Rattle.fill_arena.specs.Contents.{Extends}
use Rattle.fill_arena.specs.Stands.{AtomFits}
use Rattle.fill_arena.specs.WellMade.{IsAtomItem, OlderPlaces, OlderSources}
use Rattle.fill_arena.specs.declared.entry.AtomItem.{AtomItem}
use Rattle.fill_arena.specs.declared.entry.AtomItem.TheVariants.{Const, Whole, Sub}
use Rattle.fill_arena.specs.declared.entry.Entry.{Entry}
use Rattle.fill_arena.specs.declared.entry.Entry.TheVariants as kind
use Rattle.fill_build.specs.Pieces.{AreConstants, IsWithin, piece_text}
use Rattle.fill_build.specs.declared.piece.Piece.{Piece}
use Rattle.fill_build.proofs.Lists.{each_empty, each_pushed, some_empty, some_last, some_pushed}

-- what items name stays as the arena grows
module _ (c d : List Entry) (o : Extends c d) where
  older_places : (m n s : ℕ) → m ≤ n → OlderPlaces c m s → OlderPlaces d n s
  older_places m n s le h = let lt = h.1 in ((h.0.0, o s (kind.Places h.0.0) h.0.1), omega arith)

  older_sources : (m n s : ℕ) → m ≤ n → OlderSources c m s → OlderSources d n s
  older_sources m n s le h = let lt = h.1 in ((h.0.0, o s (kind.Sources h.0.0) h.0.1), omega arith)

  pub item_stays : (m n : ℕ) → m ≤ n → (x : AtomItem) → IsAtomItem c m x → IsAtomItem d n x
  item_stays m n le (Const t) h = h
  item_stays m n le (Whole s) h = older_sources m n s le h
  item_stays m n le (Sub s p q) h = (older_sources m n s le h.0, older_places m n p le h.1, older_places m n q le h.2)

-- the item of a constant
fits_constant : (d : List Entry) (u : List ℕ) (a : AtomTree) → AtomFits a d (Const u) ↔ (a ≡ constant u)
fits_constant d u (constant t) = (λ h. ap constant (sym h), λ e. (let f : constant t ≡ constant u = e in cc))
fits_constant d u (whole s) = (λ h. absurd h, λ e. absurd (let f : whole s ≡ constant u = e in cc))
fits_constant d u (sub s p q) = (λ h. absurd h, λ e. absurd (let f : sub s p q ≡ constant u = e in cc))

module _ (p : Piece) (is : IsWithin p) (scalars : All IsScalar p.text.now) where
  piece_scalars : All IsScalar (piece_text p)
  piece_scalars = All-take IsScalar p.width _ (All-drop IsScalar p.from p.text.now scalars)

  pub constant_put : (u : List ℕ) → u ≡ piece_text p → p.constant ≡ true → length u ≤ 100 → AreConstants p (Const u ∷ [])
  constant_put u e may short =
      record {
        scalars = piece_scalars;
        each = λ c. each_pushed (IsAtomItem c (length c)) [] (Const u) (each_empty (IsAtomItem c (length c))) short;
        exact = λ d a. (
          λ s. elim (some_pushed (AtomFits a d) [] (Const u) s) [
            | inl none ↦ absurd (some_empty (AtomFits a d) none)
            | inr f ↦ (may, subst (λ t. a ≡ constant t) e ((fits_constant d u a).0 f))
          ],
          λ h. some_last (AtomFits a d) [] (Const u) ((fits_constant d u a).1 (subst (λ t. a ≡ constant t) (sym e) h.1)),
        );
      }

  pub constant_left_out : p.constant ≡ false → AreConstants p []
  constant_left_out off =
      record {
        scalars = piece_scalars;
        each = λ c. each_empty (IsAtomItem c (length c));
        exact = λ d a. (λ s. absurd (some_empty (AtomFits a d) s), λ h. absurd (let clash = sym off ∙ h.0 in cc));
      }
