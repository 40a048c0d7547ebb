-- What rows make of the examples, and one row more.
use Rattle.std.proofs.Common.{◌≡◌, ◌∙◌, ℕ, ◌+◌, List, [], ◌∷◌, ◌++◌, refl, sym, ap, subst, append_assoc, append-nil}
use Rattle.std.specs.List.{range_with_len}
use Rattle.fill_tree.specs.declared.user.Example.{Example}
use Rattle.fill_space.specs.declared.ground.Ground.{Ground}
use Rattle.fill_output.proofs.Numbered.{range_more}
use Rattle.fillcsv_rows.specs.Learned.{Gives, Learns, LearnsFirst, given_for}
use Rattle.fillcsv_rows.specs.declared.learning.Refused.{Refused}

module _ (typed : List Example) (g : Ground) (row : ℕ) (mid b : List Example) (here : List Refused) (gives : Gives g mid row (given_for typed g.sheet row) b here) where
  learns_then : (a : List Example) (rows : List ℕ) (before : List Refused) → Learns typed g a rows mid before → Learns typed g a (rows ++ row ∷ []) b (before ++ here)
  learns_then a [] before is =
      let none : List Refused = [] in (
        b,
        here,
        none,
        subst (λ (x : List Example). Gives g x row (given_for typed g.sheet row) b here) is.0 gives,
        (refl, refl),
        ap (λ (l : List Refused). l ++ here) is.1 ∙ sym (append-nil here),
      )
  learns_then a (first ∷ rows) before is =
      (is.0, is.1, is.2 ++ here, is.3, learns_then is.0 rows is.2 is.4, ap (λ (l : List Refused). l ++ here) is.5 ∙ append_assoc is.1 is.2 here)

-- the next row
pub learns_more : (typed : List Example) (g h : Ground) (n : ℕ) (mid b : List Example) (before now : List Refused) → h ≡ g → LearnsFirst typed g n mid before
    → (here : List Refused) × Gives h mid (n + 1) (given_for typed h.sheet (n + 1)) b here × (now ≡ before ++ here) → LearnsFirst typed g (n + 1) b now
learns_more typed g h n mid b before now same learned next =
    let gives = subst (λ (x : Ground). Gives x mid (n + 1) (given_for typed x.sheet (n + 1)) b next.0) same next.1 in
    let more = learns_then typed g (n + 1) mid b next.0 gives [] (range_with_len 1 n) before learned in
    subst (λ (l : List Refused). LearnsFirst typed g (n + 1) b l) (sym next.2)
    (subst (λ (rows : List ℕ). Learns typed g [] rows b (before ++ next.0)) (sym (range_more n)) more)
