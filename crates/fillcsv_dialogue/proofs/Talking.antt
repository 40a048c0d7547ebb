-- Turns of a dialogue, and the whole of it.
use Rattle.std.proofs.Common.{◌≡◌, ◌∙◌, ◌≤◌, ℕ, List, [], ◌∷◌, ◌++◌, Bool, Option, None, Some, true, false, ap, arith, inl, inr, refl, subst, sym}
use Rattle.std.specs.Prelude.{IfOk, MatchOption, map, Result, Ok, Err, if◌then◌else◌}
use Rattle.std.specs.Io.KnownBytes.{prepend_known}
use Rattle.std.proofs.KnownBytes.{prepend_known-nil}
use Rattle.std.specs.Str.Lines.{lines}
use Rattle.std.proofs.lemmas.List.{append_assoc}
use Rattle.fill_edge.specs.Outside.{Rose}
use Rattle.fill_tree.specs.declared.user.Example.{Example}
use Rattle.fill_space.specs.declared.ground.Ground.{Ground}
use Rattle.fill_session.specs.Suggested.{Asked, SuggestionIs}
use Rattle.fillcsv_rows.specs.Learned.{AreLearned}
use Rattle.fillcsv_rows.specs.declared.learning.Refused.{Refused}
use Rattle.fillcsv_dialogue.specs.declared.replies.Kept.{Kept}
use Rattle.fillcsv_dialogue.specs.declared.replies.Reply.{Reply}
use Rattle.fillcsv_dialogue.specs.Dialogue.{AreAnswered, IsDialogue, QuestionIs}
use Rattle.fillcsv_dialogue.specs.Lines.{AreLinesOf, IsNextLine}
use Rattle.fillcsv_dialogue.specs.Replies.{replied, reply_in, rows_of, typed_with}
use Rattle.fillcsv_dialogue.specs.Turns.{AreHeard, GoesOn, Hears, IsOver, LeadsTo, Turns}

heard_both : (a b c : Option (List ℕ)) (h k : List (List ℕ)) → AreHeard a b h → AreHeard b c k → AreHeard a c (h ++ k)
heard_both None b c h k first second = tt
heard_both (Some xs) None c h k first second = absurd first
heard_both (Some xs) (Some ys) None h k first second = absurd second
heard_both (Some xs) (Some ys) (Some zs) h k first second = first ∙ (ap (λ (l : List (List ℕ)). h ++ l) second ∙ sym (append_assoc h k (lines zs)))

heard_line : (bytes come : Option (List ℕ)) (before now : ℕ) (line : List ℕ) → IsNextLine bytes come before now (Some line) → AreHeard bytes come (line ∷ [])
heard_line None come before now line is = tt
heard_line (Some xs) None before now line is = absurd is
heard_line (Some xs) (Some ys) before now line is = is

rose_sooner : (first before now : ℕ) → first ≤ before → Rose before now → Rose first now
rose_sooner first before now le rose = omega (arith, rose)

lines_after : (left come : Option (List ℕ)) (first before now : ℕ) (h k : List (List ℕ)) → AreHeard left come h → first ≤ before → AreLinesOf come before now k → AreLinesOf left first now (h ++ k)
lines_after None come first before now h k heard le are = tt
lines_after (Some xs) None first before now h k heard le are = absurd heard
lines_after (Some xs) (Some ys) first before now h k heard le (inl all) = inl (ap (λ (l : List (List ℕ)). h ++ l) all ∙ sym heard)
lines_after (Some xs) (Some ys) first before now h k heard le (inr some) =
    inr (rose_sooner first before now le some.0, (some.1.0, heard ∙ (ap (λ (l : List (List ℕ)). h ++ l) some.1.1 ∙ sym (append_assoc h k some.1.0))))

module _ (g : Ground) (words : List Example) where
  abbrev From : Option (List Kept) → List Kept → List (List ℕ) → List Kept → Type 0
  From next kept more after = MatchOption next (after ≡ kept) (λ now. IsDialogue g words now more after)

  pub leads_start : (kept : List Kept) → LeadsTo g words kept [] kept
  leads_start kept = record { leads = λ more after d. d }

  leads_both : (a b c : List Kept) (h k : List (List ℕ)) → LeadsTo g words a h b → LeadsTo g words b k c → LeadsTo g words a (h ++ k) c
  leads_both a b c h k first second = record {
    leads = λ more after d. subst (λ (l : List (List ℕ)). IsDialogue g words a l after) (sym (append_assoc h k more)) (first.leads (k ++ more) after (second.leads more after d));
  }

  pub goes_both : (a b c : List Kept) (left mid come : Option (List ℕ)) → GoesOn g words a b left mid → GoesOn g words b c mid come → GoesOn g words a c left come
  goes_both a b c left mid come first second = (first.0 ++ second.0, heard_both left mid come first.0 second.0 first.1 second.1, leads_both a b c first.0 second.0 first.2 second.2)

  -- nothing is left to ask
  over_at : (kept : List Kept) → QuestionIs g words kept None → (heard : List (List ℕ)) → IsDialogue g words kept heard kept
  over_at kept none [] = refl
  over_at kept none (line ∷ more) = inl (none, refl)

  pub over_unasked : (kept : List Kept) (bytes : Option (List ℕ)) (before now : ℕ) → QuestionIs g words kept None → IsOver g words kept bytes before now
  over_unasked kept None before now none = ([], tt, refl)
  over_unasked kept (Some xs) before now none = (lines xs, inl refl, over_at kept none (lines xs))

  -- a question was asked
  module _ (q : Asked) (old new : List Kept) (question : QuestionIs g words old (Some q)) where
    line_leads : (line : List ℕ) → replied q (reply_in line) old ≡ Some new → LeadsTo g words old (line ∷ []) new
    line_leads line is = record {
      leads = λ more after d. inr (q, question, subst (λ (next : Option (List Kept)). From next old more after) (sym is) d);
    }

    quits : (line : List ℕ) (more : List (List ℕ)) → replied q (reply_in line) old ≡ None → IsDialogue g words old (line ∷ more) old
    quits line more is = inr (q, question, subst (λ (next : Option (List Kept)). From next old more old) (sym is) refl)

    over_silent : (bytes come : Option (List ℕ)) (before now : ℕ) → IsNextLine bytes come before now None → IsOver g words old bytes before now
    over_silent None come before now is = ([], tt, refl)
    over_silent (Some xs) come before now (inl none) = ([], inl (sym none), refl)
    over_silent (Some xs) come before now (inr rose) = ([], inr (rose, (lines xs, refl)), refl)

    over_quit : (bytes come : Option (List ℕ)) (before now : ℕ) (line : List ℕ) → IsNextLine bytes come before now (Some line) → replied q (reply_in line) old ≡ None
        → IsOver g words old bytes before now
    over_quit None come before now line next is = (line ∷ [], tt, quits line [] is)
    over_quit (Some xs) None before now line next is = absurd next
    over_quit (Some xs) (Some ys) before now line next is = (line ∷ lines ys, inl (sym next), quits line (lines ys) is)

    pub heard_turns : (on : Bool) (bytes come : Option (List ℕ)) (before now : ℕ) → Hears on q old new bytes come before now → Turns on g words old new bytes come before now
    heard_turns true bytes come before now hears = (hears.0 ∷ [], heard_line bytes come before now hears.0 hears.1, line_leads hears.0 hears.2)
    heard_turns false bytes come before now hears = (
      hears.0,
      elim hears.1 [
        | inl silent ↦ over_silent bytes come before now silent
        | inr quit ↦ over_quit bytes come before now quit.0 quit.1 quit.2
      ],
    )

  -- the whole dialogue
  pub all_answered : (kept : List Kept) (left come : Option (List ℕ)) (first before now : ℕ) → GoesOn g words [] kept left come → first ≤ before → IsOver g words kept come before now
      → AreAnswered g words left first now (typed_with words kept)
  all_answered kept left come first before now went le over =
      (went.0 ++ over.0, kept, lines_after left come first before now went.0 over.0 went.1 le over.1, went.2.leads over.0 kept over.2, refl)

module _ (g : Ground) (words : List Example) where
  -- nothing was heard yet
  pub goes_not : (kept : List Kept) (left come : Option (List ℕ)) → come ≡ left → GoesOn g words kept kept left come
  goes_not kept None come same = ([], tt, leads_start g words kept)
  goes_not kept (Some xs) None same = cc
  goes_not kept (Some xs) (Some ys) same = ([], (let eq : ys ≡ xs = cc in ap lines (sym eq)), leads_start g words kept)

  pub goes_start : (kept : List Kept) (left : Option (List ℕ)) (held : List ℕ) → kept ≡ [] → held ≡ [] → GoesOn g words [] kept left (prepend_known held left)
  goes_start kept left held none empty =
      subst (λ (k : List Kept). GoesOn g words [] k left (prepend_known held left)) (sym none)
      (goes_not [] left (prepend_known held left) (ap (λ (h : List ℕ). prepend_known h left) empty ∙ prepend_known-nil left))

-- a line was heard, and its reply was taken
pub hears_taken : {E : Type 0} (r : Result Bool E) (q : Asked) (reply : Reply) (old new : List Kept) (bytes come : Option (List ℕ)) (before now : ℕ) (line : List ℕ)
    → IsNextLine bytes come before now (Some line) → reply ≡ reply_in line
    → IfOk r (λ on. replied q reply old ≡ (if on then Some new else None)) → IfOk r (λ on. on ≡ false → new ≡ old)
    → IfOk r (λ on. Hears on q old new bytes come before now)
hears_taken (Ok true) q reply old new bytes come before now line next is taken stays = (line, next, ap (λ (x : Reply). replied q x old) (sym is) ∙ taken)
hears_taken (Ok false) q reply old new bytes come before now line next is taken stays = (stays refl, inr (line, next, ap (λ (x : Reply). replied q x old) (sym is) ∙ taken))
hears_taken (Err e) q reply old new bytes come before now line next is taken stays = tt

-- what is asked once all is learned that is typed
pub question_is : (g over : Ground) (words : List Example) (kept : List Kept) (typed : List Example) (passed : List ℕ) (examples : List Example) (refused : List Refused) (found : Option Asked)
    → typed ≡ typed_with words kept → passed ≡ rows_of kept ++ map (λ r. r.row) refused → over ≡ g → AreLearned typed g examples refused → SuggestionIs over examples passed found → QuestionIs g words kept found
question_is g over words kept typed passed examples refused found is_typed is_passed is_over learned asked = (
  examples,
  refused,
  subst (λ (t : List Example). AreLearned t g examples refused) is_typed learned,
  subst (λ (p : List ℕ). SuggestionIs g examples p found) is_passed (subst (λ (o : Ground). SuggestionIs o examples passed found) is_over asked),
)
