-- Examples that rows give in order were accepted one after the other.
use Rattle.std.proofs.Common.{◌≡◌, ◌∙◌, ℕ, zero, suc, ◌+◌, ◌<◌, List, [], ◌∷◌, ◌++◌, All, Option, None, Some, ap, append_assoc, append-nil, arith, inl, inr, refl, subst, sym}
use Rattle.std.specs.List.{range_with_len}
use Rattle.std.proofs.lemmas.Bool.{lt-ltb}
use Rattle.std.proofs.lemmas.List.Elements.{All-append, All-cons, All-head, All-nil, All-tail}
use Rattle.fill_tree.specs.declared.user.Edit.TheVariants.{Add}
use Rattle.fill_tree.specs.declared.user.Example.{Example}
use Rattle.fill_space.specs.declared.ground.Ground.{Ground}
use Rattle.fill_session.specs.Edits.{changed, with_example}
use Rattle.fillcsv_rows.specs.Learned.{Gives, Learns, LearnsFirst, given_for}
use Rattle.fillcsv_rows.specs.declared.learning.Refused.{Refused}
use Rattle.fillcsv_blocks.specs.Accepted.{Accepts, AreAccepted}

-- an example of a later row comes last
last : (e : Example) (es : List Example) → All (λ x. x.row < e.row) es → with_example e es ≡ es ++ e ∷ []
last e [] all = refl
last e (x ∷ es) all = rw (lt-ltb x.row e.row (All-head (λ x. x.row < e.row) x es all)) (ap (λ (l : List Example). x ∷ l) (last e es (All-tail (λ x. x.row < e.row) x es all)))

module _ (typed : List Example) (g : Ground) where
  -- what rows from a number on add to examples of rows before it
  abbrev Adds : List Example → List Example → Type 0
  Adds a b = (more : List Example) × (b ≡ a ++ more) × Accepts g a more b

  none : (a b : List Example) → b ≡ a → Adds a b
  none a b is = ([], is ∙ sym (append-nil a), is)

  abbrev Before : ℕ → List Example → Type 0
  Before start es = All (λ x. x.row < start) es

  later : (start : ℕ) (a : List Example) → Before start a → Before (start + 1) a
  later start a all k d lt = let less = all k d lt in omega (arith, less)

  given : (start : ℕ) (a mid b : List Example) (here : List Refused) (o : Option (List ℕ)) → Before start a → Gives g a start o mid here
      → ((c : List Example) → mid ≡ c → Before (start + 1) c → Adds c b) → Adds a b
  given start a mid b here None all gives next = next a gives.0 (later start a all)
  given start a mid b here (Some text) all (inr refused) next = next a refused.2 (later start a all)
  given start a mid b here (Some text) all (inl accepted) next =
      let e : Example = record { row = start; text = text } in
      let at_end = last e a all in
      let room = All-append (λ x. x.row < start + 1) a (e ∷ []) (later start a all) (All-cons (λ x. x.row < start + 1) e [] (omega arith) (All-nil (λ x. x.row < start + 1))) in
      let m = next (changed a (Add start text)) accepted.1 (subst (Before (start + 1)) (sym at_end) room) in
      (e ∷ m.0, m.1 ∙ ap (λ (l : List Example). l ++ m.0) at_end ∙ append_assoc a (e ∷ []) m.0, (accepted.0, m.2))

  learned : (n start : ℕ) (a b : List Example) (refused : List Refused) → Before start a → Learns typed g a (range_with_len start n) b refused → Adds a b
  learned zero start a b refused all is = none a b is.0
  learned (suc n) start a b refused all is =
      given start a is.0 b is.1 (given_for typed g.sheet start) all is.3
      (λ c same room. learned n (start + 1) c b is.2 room (subst (λ (l : List Example). Learns typed g l (range_with_len (start + 1) n) b is.2) same is.4))

pub are_accepted : (typed : List Example) (g : Ground) (n : ℕ) (examples : List Example) (refused : List Refused) → LearnsFirst typed g n examples refused → AreAccepted g examples
are_accepted typed g n examples refused is =
    let m = learned typed g n 1 [] examples refused (All-nil (λ x. x.row < 1)) is in
    subst (λ (l : List Example). Accepts g [] l examples) (sym m.1) m.2
