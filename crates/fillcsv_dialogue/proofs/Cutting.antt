-- Lines that are cut off.
use Rattle.std.proofs.Common.{◌≡◌, ◌∙◌, ◌+◌, ◌<◌, ◌≤◌, ℕ, List, [], ◌∷◌, ◌++◌, All, Option, None, Some, false, ap, arith, inl, inr, get_or, length, refl, subst, suc, sym, take, drop}
use Rattle.std.specs.Prelude.{option_to_list, ◌==◌}
use Rattle.std.specs.List.{slice_split}
use Rattle.std.specs.Io.KnownBytes.{Consumes, IsAtEnd, Keeps, prepend_known}
use Rattle.std.proofs.KnownBytes.{Keeps-trans}
use Rattle.std.specs.Str.Lines.{lines, lines_of_parts, strip_carriage_return}
use Rattle.std.proofs.lemmas.List.{append-nil, append_assoc, take-append-drop, take_all}
use Rattle.std.proofs.lemmas.List.Elements.{All-more}
use Rattle.std.proofs.Math.Seq.{drop-cons}
use Rattle.std.proofs.lemmas.List.Splits.{length-slice_split, slice_split_at, slice_split_none}
use Rattle.std.proofs.lemmas.Bool.Decides.{nat_tests}
use Rattle.fill_edge.specs.Outside.{Rose}
use Rattle.fillcsv_dialogue.specs.Cuts.{IsCut, IsFirstEnd, is_newline}
use Rattle.fillcsv_dialogue.specs.Lines.{IsNextLine}

-- the parts of bytes are some
front_line : (x : List ℕ) (parts : List (List ℕ)) (bytes : List ℕ) → parts ≡ slice_split is_newline bytes → lines_of_parts (x ∷ parts) ≡ strip_carriage_return x ∷ lines_of_parts parts
front_line x [] bytes is = absurd (omega (arith, length-slice_split is_newline bytes, ap length is))
front_line x (y ∷ more) bytes is = refl

-- up to the first end of a line
cut_at : (front rest bytes line : List ℕ) → All (λ b. is_newline b ≡ false) front → bytes ≡ front ++ 10 ∷ rest → line ≡ strip_carriage_return front → IsCut bytes line rest
cut_at front rest bytes line none is stripped = record {
  cut = λ more.
      let split : slice_split is_newline (bytes ++ more) ≡ front ∷ slice_split is_newline (rest ++ more) =
      ap (λ (b : List ℕ). slice_split is_newline (b ++ more)) is ∙ ap (λ (b : List ℕ). slice_split is_newline b) (append_assoc front (10 ∷ rest) more) ∙ slice_split_at is_newline front 10 (rest ++ more) none refl in
      ap lines_of_parts split ∙ front_line front (slice_split is_newline (rest ++ more)) (rest ++ more) refl ∙ ap (λ (l : List ℕ). l ∷ lines (rest ++ more)) (sym stripped);
}

pub cut_from : (bytes line rest back : List ℕ) (at : ℕ) → IsFirstEnd bytes at → line ≡ strip_carriage_return (take at bytes) → back ≡ drop at bytes → rest ≡ drop 1 back → IsCut bytes line rest
cut_from bytes line rest back at first stripped is_back is_rest =
    let inside : at < length bytes = first.inside in
    let here : drop at bytes ≡ get_or bytes at 0 ∷ drop (suc at) bytes = drop-cons bytes at 0 inside in
    let ten : get_or bytes at 0 ≡ 10 = first.here in
    let after : rest ≡ drop (suc at) bytes = is_rest ∙ ap (λ (l : List ℕ). drop 1 l) (is_back ∙ here) ∙ refl in
    let is : bytes ≡ take at bytes ++ 10 ∷ rest = sym (take-append-drop at bytes) ∙ ap (λ (l : List ℕ). take at bytes ++ l) (here ∙ (ap (λ (b : ℕ). b ∷ drop (suc at) bytes) ten ∙ ap (λ (l : List ℕ). 10 ∷ l) (sym after))) in
    cut_at (take at bytes) rest bytes line first.none is stripped

-- without an end of a line
pub last_some : (bytes : List ℕ) → All (λ b. is_newline b ≡ false) bytes → 0 < length bytes → lines bytes ≡ bytes ∷ []
last_some bytes none some =
    let test : (length bytes == 0) ≡ false = grind (arith, nat_tests) in
    ap lines_of_parts (slice_split_none is_newline bytes none) ∙ rw test refl

pub last_none : (bytes : List ℕ) → length bytes ≡ 0 → lines bytes ≡ []
last_none [] is = refl
last_none (b ∷ more) is = absurd (omega (arith, is))

-- ---- the next line

module _ (before now : ℕ) where
  pub next_cut : (come left : Option (List ℕ)) (held line rest : List ℕ) → Keeps come (prepend_known held left) → IsCut held line rest → IsNextLine come (prepend_known rest left) before now (Some line)
  next_cut None left held line rest keeps cut = tt
  next_cut (Some xs) None held line rest keeps cut = absurd keeps
  next_cut (Some xs) (Some ys) held line rest keeps cut = ap lines (sym keeps) ∙ cut.cut ys

  pub next_last : (come left : Option (List ℕ)) (held : List ℕ) (found : Option (List ℕ)) → Keeps come (prepend_known held left) → IsAtEnd left → lines held ≡ option_to_list found
      → IsNextLine come (prepend_known [] left) before now found
  next_last None left held found keeps ended are = tt
  next_last (Some xs) None held found keeps ended are = absurd keeps
  next_last (Some xs) (Some ys) held None keeps ended are =
      let same : xs ≡ held = sym keeps ∙ ap (λ (y : List ℕ). held ++ y) ended ∙ append-nil held in
      inl (ap lines same ∙ are)
  next_last (Some xs) (Some ys) held (Some line) keeps ended are =
      let same : xs ≡ held = sym keeps ∙ ap (λ (y : List ℕ). held ++ y) ended ∙ append-nil held in
      ap lines same ∙ are ∙ ap (λ (y : List ℕ). line ∷ lines y) (sym ended)

  pub next_failed : (come rest : Option (List ℕ)) → Rose before now → IsNextLine come rest before now None
  next_failed None rest rose = tt
  next_failed (Some xs) rest rose = inr rose

-- ---- reading

-- one byte more ends no line
pub no_newline : (bytes : List ℕ) (at : ℕ) → at < length bytes → All (λ b. is_newline b ≡ false) (take at bytes) → (get_or bytes at 0 ≡ 10 → ⊥) → All (λ b. is_newline b ≡ false) (take (at + 1) bytes)
no_newline bytes at inside none other =
    let test : is_newline (get_or bytes at 0) ≡ false = grind (arith, nat_tests) in
    All-more (λ b. is_newline b ≡ false) bytes at 0 inside none test

pub all_there : (bytes : List ℕ) (at : ℕ) → length bytes ≤ at → All (λ b. is_newline b ≡ false) (take at bytes) → All (λ b. is_newline b ≡ false) bytes
all_there bytes at whole none = subst (λ (l : List ℕ). All (λ b. is_newline b ≡ false) l) (take_all at bytes whole) none

-- what was read stands behind what is held
pub read_some : (old new : Option (List ℕ)) (held piece grown : List ℕ) → Consumes old new piece → grown ≡ held ++ piece → Keeps (prepend_known held old) (prepend_known grown new)
read_some None new held piece grown gone is = tt
read_some (Some xs) None held piece grown gone is = absurd gone
read_some (Some xs) (Some ys) held piece grown gone is =
    ap (λ (l : List ℕ). l ++ ys) is ∙ (append_assoc held piece ys ∙ ap (λ (l : List ℕ). held ++ l) (sym gone))

pub read_none : (old new : Option (List ℕ)) (held piece : List ℕ) → Consumes old new piece → piece ≡ [] → Keeps (prepend_known held old) (prepend_known held new)
read_none old new held piece gone is = read_some old new held piece held gone (sym (ap (λ (l : List ℕ). held ++ l) is ∙ append-nil held))

-- a read after those before it
pub come_more : (a b c : Option (List ℕ)) (before mid now : ℕ) → Keeps a b → mid ≡ before → Keeps b c × (now ≡ mid) → Keeps a c × (now ≡ before)
come_more a b c before mid now keeps same read = (Keeps-trans a b c keeps read.0, read.1 ∙ same)
