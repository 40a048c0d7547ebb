-- Texts with their numbers, as more texts are numbered.
use Rattle.std.proofs.Common.{◌≡◌, ◌↔◌, inr, ⊎_elim, ℕ, List, [], ◌∷◌, ◌++◌, true, Option, None, Some, slice_get, refl, sym, subst, ◌∙◌}
use Rattle.std.proofs.lemmas.Option.{slice_get_within}
use Rattle.std.specs.Prelude.{IfSome}
use Rattle.fill_arena.specs.Contents.{SomeIn}
use Rattle.fill_arena.proofs.Lists.{get_left}
use Rattle.fill_doubt.specs.Answers.{Gains, TextsHave}
use Rattle.fill_doubt.specs.Memo.{IsLast}
use Rattle.fill_doubt.specs.Numbered.{AreNumbered, HasNumber, IsNumber, KeepsNumbers, NumberedHave}
use Rattle.fill_doubt.specs.declared.answers.Texts.{Texts}
use Rattle.fill_doubt.specs.declared.memo.Last.{Last}
use Rattle.fill_doubt.specs.declared.numbered.Numbered.{Numbered}
use Rattle.fill_doubt.specs.declared.numbered.NumberedTexts.{NumberedTexts}
use Rattle.fill_doubt.specs.declared.row.OnRow.{OnRow}
use Rattle.fill_doubt.specs.declared.shaped.Shaped.{Shaped}
use Rattle.fill_doubt.proofs.Gains.{have_start}
use Rattle.fill_doubt.proofs.Joins.{gains_made}
use Rattle.fill_doubt.proofs.Maps.{pushed_right}

pub keeps_same : (texts : List Shaped) → KeepsNumbers texts texts
keeps_same texts = record { kept = λ t n h. h }

pub keeps_pushed : (old new : List Shaped) (x : Shaped) → new ≡ old ++ x ∷ [] → KeepsNumbers old new
keeps_pushed old new x is = record {
  kept = λ t n h. (h.0, subst (λ (xs : List Shaped). slice_get xs n ≡ Some h.0) (sym is) (get_left old (x ∷ []) n (slice_get_within old n h.0 h.1) ∙ h.1), h.2);
}

number_kept : (old new : List Shaped) → KeepsNumbers old new → (t : List ℕ) (o : Option ℕ) → IsNumber old t o → IsNumber new t o
number_kept old new keeps t None h = h
number_kept old new keeps t (Some n) h = keeps.kept t n h

pub numbered_kept : (old new : List Shaped) (f : NumberedTexts) → KeepsNumbers old new → AreNumbered old f → AreNumbered new f
numbered_kept old new f keeps are = record { each = λ i x at. number_kept old new keeps x.text.now x.number (are.each i x at) }

pub last_kept : (on : OnRow) (old new : List Shaped) (last : Option Last) → KeepsNumbers old new → IfSome last (IsLast on old) → IfSome last (IsLast on new)
last_kept on old new None keeps is = tt
last_kept on old new (Some l) keeps is = record { answers = is.answers; numbers = numbered_kept old new l.texts keeps is.numbers }

pub numbered_same : (texts : List Shaped) (f g : NumberedTexts) → g.texts.items ≡ f.texts.items → AreNumbered texts f → AreNumbered texts g
numbered_same texts f g same are = record { each = λ i x at. are.each i x (subst (λ (xs : List Numbered). slice_get xs i ≡ Some x) same at) }

pub numbered_none : (texts : List Shaped) (f : NumberedTexts) → f.texts.items ≡ [] → AreNumbered texts f
numbered_none texts f nil = record { each = λ i x at. absurd (none i x (subst (λ (xs : List Numbered). slice_get xs i ≡ Some x) nil at)) }
  where
    none : (i : ℕ) (x : Numbered) → slice_get {X = Numbered} [] i ≡ Some x → ⊥
    none i x h = cc

pub numbered_pushed : (texts : List Shaped) (f g : NumberedTexts) (x : Numbered) → g.texts.items ≡ f.texts.items ++ x ∷ [] → IsNumber texts x.text.now x.number → AreNumbered texts f → AreNumbered texts g
numbered_pushed texts f g x is here are = record { each = pushed_right (λ (y : Numbered). IsNumber texts y.text.now y.number) f.texts.items g.texts.items x is here are.each }

pub number_there : (texts : List Shaped) (t : List ℕ) (o : Option ℕ) (n : ℕ) → o ≡ Some n → IsNumber texts t o → HasNumber texts t n
number_there texts t o n is h = subst (IsNumber texts t) is h

abbrev Nothing : Option (List ℕ) → Type 0
Nothing o = ⊥

-- all texts, with their numbers
pub numbered_all : (found : Texts) (start made : NumberedTexts) → start.texts.items ≡ [] → start.none ≡ found.none → Gains (NumberedHave start) (NumberedHave made) (λ o. SomeIn (λ x. o ≡ Some x.now) found.texts.items)
    → (o : Option (List ℕ)) → NumberedHave made o ↔ TextsHave found o
numbered_all found start made nil same gains o =
    let first : Gains Nothing (NumberedHave start) (λ q. (q ≡ None) × (found.none ≡ true)) = (λ q.
    let s = have_start (λ x. x.text.now) start.texts.items start.none found.none nil same q in
    ((λ h. inr (s.0 h)), (λ h. ⊎_elim (λ l. absurd l) (λ r. s.1 r) h))) in
    let all = gains_made (λ x. x.now) (λ y q. q ≡ y) (λ q. ((λ h. h), (λ h. h))) found.texts.items found.none Nothing (NumberedHave start) (NumberedHave made) first gains in
    ((λ h. ⊎_elim (λ l. absurd l) (λ r. subst (TextsHave found) (sym r.2) r.1) ((all o).0 h)), (λ h. (all o).1 (inr (o, h, refl))))
