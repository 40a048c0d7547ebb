-- The nearest of the first names.
use Rattle.std.proofs.Common.{◌≡◌, ◌∙◌, ℕ, ◌+◌, ◌<◌, ◌≤◌, List, [], length, drop, get_or, Option, None, Some, ap, sym, option_and_then, option_map}
use Rattle.std.specs.Borrow.{Bor}
use Rattle.std.proofs.lemmas.List.{at_drop_more, drop_all}
use Rattle.fillcsv_run.specs.Near.{as_text, better, if_close, like, near_from}

pub near_more : (word : List ℕ) (names : List (List ℕ)) (all best now found : Option (List ℕ)) (i : ℕ) → i < length names → all ≡ near_from word best (drop i names)
    → found ≡ like word (get_or names i []) → now ≡ better word best found → all ≡ near_from word now (drop (i + 1) names)
near_more word names all best now found i lt before is put =
    before ∙ (at_drop_more (near_from word best) names i [] lt ∙ ap (λ b. near_from word b (drop (i + 1) names)) (sym (put ∙ ap (better word best) is)))

pub near_all : (word : List ℕ) (names : List (List ℕ)) (all best : Option (List ℕ)) (i : ℕ) → length names ≤ i → all ≡ near_from word best (drop i names) → all ≡ best
near_all word names all best i past is = is ∙ ap (near_from word best) (drop_all i names past)

-- a name that is no text is not like a word, and one that is text is as that is close
pub like_text : (word bytes : List ℕ) (text : Option (Bor (List ℕ))) → option_map (λ t. t.now) text ≡ as_text bytes → (t : Bor (List ℕ)) → text ≡ Some t → like word bytes ≡ if_close word t.now
like_text word bytes text is t some =
    let found : as_text bytes ≡ Some t.now = sym is ∙ ap (option_map (λ x. x.now)) some in
    ap (option_and_then (if_close word)) found

pub like_none : (word bytes : List ℕ) (text : Option (Bor (List ℕ))) → option_map (λ t. t.now) text ≡ as_text bytes → text ≡ None → like word bytes ≡ None
like_none word bytes text is none =
    let found : as_text bytes ≡ None = sym is ∙ ap (option_map (λ x. x.now)) none in
    ap (option_and_then (if_close word)) found
