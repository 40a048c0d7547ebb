-- The index of tables by their names.
use Rattle.std.proofs.Common.{◌≡◌, ℕ, zero, suc, ◌+◌, ◌<◌, List, [], ◌∷◌, ◌++◌, length, get_or, set, map, slice_get, position, Bool, false, All, None, Some, if◌then◌else◌, string_bytes, refl, sym, ap, ◌∙◌, arith}
use Rattle.std.specs.List.{list_any, position_or_len}
use Rattle.std.specs.Str.{bytes_eq, chars, IsUtf8}
use Rattle.std.specs.declared.string.String.{String}
use Rattle.std.specs.String.{string_eq}
use Rattle.std.proofs.lemmas.List.{length-map, map-append}
use Rattle.std.proofs.lemmas.List.Elements.{All-push}
use Rattle.fill_text.specs.Data.{TableData}
use Rattle.fill_tables.specs.Index.{IsIndex}
use Rattle.fill_tables.specs.Tables.{place_of}
use Rattle.fill_tables.proofs.Agree.{position-None}
use Rattle.fill_tables.proofs.Found.{same_chars, bytes_eq-sym}

place_in : {A : Type 0} (names : List (String A)) (tables : List TableData) (name : List ℕ) → IsUtf8 name → IsIndex names tables
    → position_or_len (λ n. bytes_eq name (string_bytes n)) names ≡ position_or_len (λ t. bytes_eq t.name (chars name)) tables
place_in [] [] name text is = refl
place_in [] (t ∷ tables) name text is = let no : [] ≡ t.name ∷ map (λ u. u.name) tables = is.same in cc
place_in (n ∷ names) [] name text is = let no : _ ∷ _ ≡ [] = is.same in cc
place_in (n ∷ names) (t ∷ tables) name text is =
    let whole : chars (string_bytes n) ∷ map (λ m. chars (string_bytes m)) names ≡ t.name ∷ map (λ u. u.name) tables = is.same in
    let here : chars (string_bytes n) ≡ t.name = cc in
    let later : map (λ m. chars (string_bytes m)) names ≡ map (λ u. u.name) tables = cc in
    let test : bytes_eq name (string_bytes n) ≡ bytes_eq t.name (chars name) =
    same_chars name (string_bytes n) text (is.text 0 n (omega arith)) ∙ bytes_eq-sym (chars name) (chars (string_bytes n)) ∙ ap (λ (u : List ℕ). bytes_eq u (chars name)) here in
    let rest = place_in names tables name text (record { same = later; text = λ k d lt. is.text (suc k) d (omega arith) }) in
    rw (test, rest) refl

-- a name's place in the index is that of its table
pub index-place : {A : Type 0} (names : List (String A)) (tables : List TableData) (name : List ℕ) → IsUtf8 name → IsIndex names tables
    → position (λ n. bytes_eq name (string_bytes n)) names ≡ place_of tables (chars name)
index-place names tables name text is =
    let size : length names ≡ length tables = sym (length-map names (λ n. chars (string_bytes n))) ∙ ap length is.same ∙ length-map tables (λ t. t.name) in
    rw (size, place_in names tables name text is) refl

any_none : {X : Type 0} (p : X → Bool) (xs : List X) → ((k : ℕ) (d : X) → k < length xs → p (get_or xs k d) ≡ false) → list_any p xs ≡ false
any_none p [] fails = refl
any_none p (x ∷ xs) fails = rw (fails 0 x (omega arith), any_none p xs (λ k d lt. fails (suc k) d (omega arith))) refl

-- a name that has no place is put at the end
pub index-pushed : {A : Type 0} (names : List (String A)) (tables : List TableData) (key : String A) (t : TableData) → IsIndex names tables → IsUtf8 (string_bytes key)
    → t.name ≡ chars (string_bytes key) → place_of tables (chars (string_bytes key)) ≡ None
    → IsIndex (if list_any (string_eq key) names then names else names ++ key ∷ []) (tables ++ t ∷ [])
index-pushed {A} names tables key t is text named none =
    let p = λ (n : String A). bytes_eq (string_bytes key) (string_bytes n) in
    let no : list_any (string_eq key) names ≡ false = any_none (string_eq key) names (λ k d lt. position-None p names k d (index-place names tables (string_bytes key) text is ∙ none) lt) in
    let f = λ (n : String A). chars (string_bytes n) in
    rw no (record {
      same = map-append f names (key ∷ []) ∙ rw (is.same, ← named) (sym (map-append (λ u. u.name) tables (t ∷ [])));
      text = All-push (λ n. IsUtf8 (string_bytes n)) names key is.text text;
    })

set-names : (tables : List TableData) (place : ℕ) (t u : TableData) → slice_get tables place ≡ Some u → t.name ≡ u.name → map (λ v. v.name) (set tables place t) ≡ map (λ v. v.name) tables
set-names [] place t u there same = refl
set-names (v ∷ tables) zero t u there same = let is : v ≡ u = cc in rw (same, is) refl
set-names (v ∷ tables) (suc place) t u there same = rw (set-names tables place t u there same) refl

-- a table that is changed and keeps its name
pub index-set : {A : Type 0} (names : List (String A)) (tables : List TableData) (place : ℕ) (t u : TableData) → IsIndex names tables → slice_get tables place ≡ Some u → t.name ≡ u.name → IsIndex names (set tables place t)
index-set names tables place t u is there same = record { same = is.same ∙ sym (set-names tables place t u there same); text = is.text }
