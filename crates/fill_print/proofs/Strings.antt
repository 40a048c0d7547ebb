-- The characters of bytes that grow by a character.
use Rattle.std.proofs.Common.{◌≡◌, ℕ, List, [], ◌∷◌, ◌++◌, refl, sym, ap, ◌∙◌}
use Rattle.std.specs.Prelude.{encode_utf8, IsUtf8}
use Rattle.std.specs.Char.{IsScalar}
use Rattle.std.specs.Str.{chars}
use Rattle.std.proofs.lemmas.List.{append-nil}
use Rattle.std.proofs.lemmas.Str.{chars-append, chars_from_encodes, IsUtf8-encode}

pub chars_more : (bs : List ℕ) (c : ℕ) → IsUtf8 bs → IsScalar c → chars (bs ++ encode_utf8 c) ≡ chars bs ++ c ∷ []
chars_more bs c utf8 is = chars-append bs (encode_utf8 c) utf8 ∙ ap (λ x. chars bs ++ x) (sym (chars_from_encodes (c ∷ []) (encode_utf8 c) (IsUtf8-encode c is) (append-nil (encode_utf8 c))))

pub no_chars : (bs : List ℕ) → bs ≡ [] → chars bs ≡ []
no_chars bs e = ap chars e ∙ sym (chars_from_encodes [] [] ([], (refl, refl)) refl)
