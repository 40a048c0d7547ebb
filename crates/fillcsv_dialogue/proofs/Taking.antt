-- Replies that are taken, and what they teach.
use Rattle.std.proofs.Common.{◌≡◌, ◌∙◌, ◌+◌, ◌-◌, ◌<◌, ◌≤◌, ℕ, List, [], ◌∷◌, ◌++◌, Option, None, Some, ap, arith, false, get_or, length, refl, sym, take, true}
use Rattle.std.specs.Prelude.{MatchOption, filter_map, option_to_list}
use Rattle.std.specs.Str.{IsUtf8, is_utf8}
use Rattle.std.proofs.lemmas.Str.{IsUtf8-from_is_utf8, is_utf8-from_IsUtf8}
use Rattle.std.proofs.lemmas.Bool.{false_from_ne_true}
use Rattle.std.proofs.lemmas.List.Elements.{filter_map-append}
use Rattle.fillcsv_dialogue.specs.declared.replies.Reply.TheVariants.{Unclear}
use Rattle.fillcsv_dialogue.specs.Replies.{reply_in, reply_of}
use Rattle.std.proofs.lemmas.List.{append-nil, take-append-le, take_all, take_more}

-- the last one is taken off
pub popped : {A : Type 0} (old new : List A) (r : Option A) → old ≡ new ++ option_to_list r → MatchOption r ((length old ≡ 0) × (length new ≡ 0)) (λ _. length new + 1 ≡ length old) → take (length old - 1) old ≡ new
popped [] new None is some = sym (sym (append-nil new) ∙ sym is)
popped (x ∷ old) new None is some = absurd (omega (arith, some.0))
popped {A} old new (Some x) is some =
    let fits : length new ≤ length new = omega arith in
    let most : length old - 1 ≡ length new = omega (arith, some) in
    ap (λ (n : ℕ). take n old) most ∙ ap (λ (l : List A). take (length new) l) is ∙ take-append-le (length new) new (x ∷ []) fits ∙ take_all (length new) new fits

-- ---- lines that are UTF-8 and others

pub reply_read : (line text : List ℕ) → text ≡ line → IsUtf8 line → reply_of text ≡ reply_in line
reply_read line text same spelled =
    let test : is_utf8 line ≡ true = is_utf8-from_IsUtf8 line spelled in
    ap reply_of same ∙ rw test refl

pub reply_unread : (line : List ℕ) → (IsUtf8 line → ⊥) → Unclear ≡ reply_in line
reply_unread line not_spelled =
    let test : is_utf8 line ≡ false = false_from_ne_true _ (λ text. not_spelled (IsUtf8-from_is_utf8 line text)) in
    rw test refl

-- ---- what replies teach

pub taught_more : {A B : Type 0} (f : A → Option B) (xs : List A) (i : ℕ) (x : A) → i < length xs → x ≡ get_or xs i x
    → filter_map f (take (i + 1) xs) ≡ filter_map f (take i xs) ++ filter_map f (x ∷ [])
taught_more {A} {B} f xs i x lt is =
    ap (λ (l : List A). filter_map f l) (take_more xs i x lt ∙ ap (λ (y : A). take i xs ++ y ∷ []) (sym is)) ∙ filter_map-append f (take i xs) (x ∷ [])
