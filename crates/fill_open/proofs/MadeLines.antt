-- Lines one after the other.
use Rattle.std.proofs.Common.{◌≡◌, ℕ, suc, zero, ◌+◌, List, ◌++◌, sym, ap, ◌∙◌, append_assoc, append-nil, arith}
use Rattle.std.specs.List.{flat_map, range_with_len}
use Rattle.fill_open.specs.Made.{made_line, made_sheet}

one_more : (f : ℕ → List ℕ) (a n : ℕ) → flat_map f (range_with_len a (suc n)) ≡ flat_map f (range_with_len a n) ++ f (a + n)
one_more f a zero = append-nil (f a) ∙ ap f (let e : a ≡ a + 0 = omega arith in e)
one_more f a (suc n) =
    ap (λ rest. f a ++ rest) (one_more f (a + 1) n)
    ∙ sym (append_assoc (f a) (flat_map f (range_with_len (a + 1) n)) (f (a + 1 + n)))
    ∙ ap (λ k. (f a ++ flat_map f (range_with_len (a + 1) n)) ++ f k) (let e : a + 1 + n ≡ a + suc n = omega arith in e)

pub sheet_more : (above : ℕ) → made_sheet (above + 1) ≡ made_sheet above ++ made_line (above + 1)
sheet_more above =
    ap (λ n. flat_map made_line (range_with_len 1 n)) (let e : above + 1 ≡ suc above = omega arith in e)
    ∙ one_more made_line 1 above
    ∙ ap (λ k. made_sheet above ++ made_line k) (let e : 1 + above ≡ above + 1 = omega arith in e)
