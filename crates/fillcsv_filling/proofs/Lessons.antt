-- What rows teach, one after another and block by block.
use Rattle.std.proofs.Common.{◌≡◌, ◌∙◌, ℕ, suc, ◌<◌, List, [], ◌∷◌, ◌++◌, length, All, None, Option, arith, ap, append_assoc, append-nil, refl, subst, sym}
use Rattle.std.proofs.lemmas.List.{map-append}
use Rattle.std.proofs.lemmas.List.Elements.{All-cons, All-head, All-nil, All-tail}
use Rattle.fill_tree.specs.declared.user.Example.{Example}
use Rattle.fill_space.specs.declared.ground.Ground.{Ground}
use Rattle.fillcsv_rows.specs.Learned.{Gives, Learns, given_for}
use Rattle.fillcsv_rows.specs.declared.learning.Refused.{Refused}
use Rattle.fillcsv_blocks.specs.Merged.{RowsRise, numbers_of}
use Rattle.fillcsv_blocks.specs.declared.numbered.Numbered.{Numbered}
use Rattle.fill_text.specs.Data.{TableData}
use Rattle.fillcsv_blocks.specs.Blocks.{BlockData}
use Rattle.fillcsv_filling.specs.Long.{LongData, ground_of}
use Rattle.fillcsv_filling.specs.Reading.{AreOf}
use Rattle.fillcsv_filling.specs.Taught.{LearnsEach, LearnsRow, examples_of, ground_with}
use Rattle.fillcsv_filling.specs.declared.learning.Learned.{Learned}
use Rattle.fillcsv_filling.proofs.Choosing.{of_all}

module _ (typed : List Example) (g : Ground) where
  pub learns_both : (a mid b : List Example) (xs ys : List ℕ) (before later : List Refused) → Learns typed g a xs mid before → Learns typed g mid ys b later → Learns typed g a (xs ++ ys) b (before ++ later)
  learns_both a mid b [] ys before later is more =
      subst (λ (l : List Refused). Learns typed g a ys b (l ++ later)) (sym is.1) (subst (λ (x : List Example). Learns typed g x ys b later) is.0 more)
  learns_both a mid b (x ∷ xs) ys before later is more = (
    is.0,
    is.1,
    is.2 ++ later,
    is.3,
    learns_both is.0 mid b xs ys is.2 later is.4 more,
    ap (λ (l : List Refused). l ++ later) is.5 ∙ append_assoc is.1 is.2 later,
  )

  pub learns_row : (a b : List Example) (row : ℕ) (here : List Refused) → Gives g a row (given_for typed g.sheet row) b here → Learns typed g a (row ∷ []) b here
  learns_row a b row here gives = (b, here, [], gives, (refl, refl), sym (append-nil here))

  -- rows that give nothing
  pub learns_nothing : (a : List Example) (rows : List Numbered) → All (λ it. given_for typed g.sheet it.number ≡ None) rows → Learns typed g a (numbers_of rows) a []
  learns_nothing a [] all = (refl, refl)
  learns_nothing a (row ∷ rows) all =
      let Nothing = λ (it : Numbered). given_for typed g.sheet it.number ≡ None in
      let here : Gives g a row.number (given_for typed g.sheet row.number) a [] =
      subst (λ (o : Option (List ℕ)). Gives g a row.number o a []) (sym (All-head Nothing row rows all)) (refl, refl)
      in
      (a, [], [], here, learns_nothing a rows (All-tail Nothing row rows all), refl)

  -- one row more
  pub learns_next : (a mid b : List Example) (rows : List Numbered) (row : Numbered) (old mid_refused refused : List Refused)
      → (here : List Refused) × Learns typed g a (numbers_of rows) mid here × (mid_refused ≡ old ++ here)
      → (here : List Refused) × Gives g mid row.number (given_for typed g.sheet row.number) b here × (refused ≡ mid_refused ++ here)
      → (here : List Refused) × Learns typed g a (numbers_of (rows ++ row ∷ [])) b here × (refused ≡ old ++ here)
  learns_next a mid b rows row old mid_refused refused is next =
      let more = learns_both a mid b (numbers_of rows) (row.number ∷ []) is.0 next.0 is.1 (learns_row mid b row.number next.0 next.1) in (
        is.0 ++ next.0,
        subst (λ (l : List ℕ). Learns typed g a l b (is.0 ++ next.0)) (sym (map-append (λ (it : Numbered). it.number) rows (row ∷ []))) more,
        next.2 ∙ ap (λ (l : List Refused). l ++ next.0) is.2 ∙ append_assoc old is.0 next.0,
      )

-- what holds of a row among others
pub all_mid : (P : Numbered → Type 0) (before after : List Numbered) (row : Numbered) → All P (before ++ row ∷ after) → P row
all_mid P [] after row all = All-head P row after all
all_mid P (x ∷ before) after row all = all_mid P before after row (All-tail P x (before ++ row ∷ after) all)

pub rises_before : (before after : List Numbered) (row : Numbered) → RowsRise (before ++ row ∷ after) → All (λ it. it.number < row.number) before
rises_before [] after row rises = All-nil (λ (it : Numbered). it.number < row.number)
rises_before (x ∷ before) after row rises =
    let above : All (λ it. x.number < it.number) (before ++ row ∷ after) = λ k d lt. rises 0 (suc k) d (omega arith) (omega arith) in
    let rest : RowsRise (before ++ row ∷ after) = λ i j d less lt. rises (suc i) (suc j) d (omega arith) (omega arith) in
    All-cons (λ (it : Numbered). it.number < row.number) x before (all_mid (λ (it : Numbered). x.number < it.number) before after row above) (rises_before before after row rest)

-- a row stands after those that are kept of the ones before it
pub kept_before : (kept old before after : List Numbered) (row : Numbered) → AreOf kept (old ++ before) → RowsRise (old ++ (before ++ row ∷ after)) → All (λ it. it.number < row.number) kept
kept_before kept old before after row are rises =
    of_all (λ (it : Numbered). it.number < row.number) kept (old ++ before) are
    (rises_before (old ++ before) after row (subst (λ (l : List Numbered). RowsRise l) (sym (append_assoc old before (row ∷ after))) rises))

-- all were gone through
pub all_yielded : (all yielded rest : List Numbered) → all ≡ yielded ++ rest → length rest ≡ 0 → all ≡ yielded
all_yielded all yielded [] whole none = whole ∙ append-nil yielded
all_yielded all yielded (x ∷ rest) whole none = absurd (omega arith)

-- what rows of a block taught, and then one row more
pub each_next : (s : LongData) (first mid last : BlockData) (old so_far new : Learned) (rows : List Numbered) (row : Numbered) → LearnsEach s first old so_far rows mid
    → LearnsRow s mid so_far new row.number (given_for s.typed (ground_with s mid).sheet row.number) last → LearnsEach s first old new (rows ++ row ∷ []) last
each_next s first mid last old so_far new rows row each next =
    let over = λ (t : List TableData). Gives (ground_of s t) (examples_of mid) row.number (given_for s.typed (ground_of s t).sheet row.number) (examples_of last) next.gives.0 in
    record {
      step = next.step;
      tables = next.tables ∙ each.tables;
      learns = learns_next s.typed (ground_with s first) (examples_of first) (examples_of mid) (examples_of last) rows row old.refused so_far.refused new.refused each.learns (next.gives.0, subst over each.tables next.gives.1, next.gives.2);
    }
