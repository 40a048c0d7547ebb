-- One more token's name behind a blank.
use Rattle.std.proofs.Common.{◌≡◌, ℕ, suc, ◌+◌, List, [], ◌∷◌, ◌++◌, Some, drop, slice_get, ap, sym, ◌∙◌, add-one, drop-cons, append_assoc}
use Rattle.std.proofs.lemmas.Option.{slice_get_within, get_or_from_slice_get}
use Rattle.fill_tokens.specs.Token.{token_name}
use Rattle.fill_tokens.specs.declared.token.Token.{Token}
use Rattle.fill_print.specs.Notation.{more_names}

drop_at : {A : Type 0} (xs : List A) (i : ℕ) (x : A) → slice_get xs i ≡ Some x → drop i xs ≡ x ∷ drop (i + 1) xs
drop_at xs i x e =
    rw (add-one) (drop-cons xs i x (slice_get_within xs i x e) ∙ ap (λ y. y ∷ drop (suc i) xs) (get_or_from_slice_get xs i x x e))

pub names_step : (to one two name all : List ℕ) (xs : List Token) (i : ℕ) (t : Token) → slice_get xs i ≡ Some t →
    one ≡ to ++ 32 ∷ [] → name ≡ token_name t → two ≡ one ++ name → to ++ more_names (drop i xs) ≡ all →
    two ++ more_names (drop (i + 1) xs) ≡ all
names_step to one two name all xs i t reads e1 en e2 h =
    let d = drop_at xs i t reads in
    let seam : ((to ++ 32 ∷ []) ++ token_name t) ++ more_names (drop (i + 1) xs) ≡ to ++ more_names (t ∷ drop (i + 1) xs) = simp append_assoc in
    rw (e2, e1, en) (seam ∙ ap (λ (l : List Token). to ++ more_names l) (sym d) ∙ h)
