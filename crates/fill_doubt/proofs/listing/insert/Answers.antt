use Rattle.std.proofs.Common.{◌≡◌, List, Some, inl, ⊎_elim, slice_get, sym, subst, ◌∙◌}
use Rattle.std.proofs.lemmas.Bool.{false≢true}
use Rattle.fill_arena.specs.Contents.{EachIn}
use Rattle.fill_eval.specs.Piece.{IsWithin}
use Rattle.fill_eval.specs.declared.piece.Piece.{Piece}
use Rattle.fill_doubt.proofs.Rising.{inserted_gains, inserted_rising, inserted_within}
use Rattle.fill_doubt.proofs.listing.insert.Goals as goal

pub place_in-at-requires-clause-within : goal.place_in-at-requires-clause-within
place_in-at-requires-clause-within c = subst (λ (xs : List Piece). EachIn IsWithin xs) (sym c.as_slice.ensures.value) c.requires.within

pub is_at-requires-clause-within : goal.is_at-requires-clause-within
is_at-requires-clause-within c = subst (λ (xs : List Piece). EachIn IsWithin xs) (sym c.as_slice-2.ensures.value) c.requires.within

pub returns-then-is_at-clause-gains : goal.returns-then-is_at-clause-gains
returns-then-is_at-clause-gains c v =
    let x = c.is_at.ensures.0 c.if-is_at.true in
    let at = subst (λ (xs : List Piece). slice_get xs c.place_in-at.result ≡ Some x.0) c.as_slice-2.ensures.value x.1 in
    ((λ h. inl h), (λ h. ⊎_elim (λ l. l) (λ e. (x.0, (c.place_in-at.result, at), x.2 ∙ e)) h))

pub returns-in-Ok-clause-within : goal.returns-in-Ok-clause-within
returns-in-Ok-clause-within c = inserted_within _ _ c.place_in-at.result c.args.piece.now c.in-Ok.ensures.items c.requires.within c.requires.piece

pub returns-in-Err-clause-within : goal.returns-in-Err-clause-within
returns-in-Err-clause-within c = subst (λ (xs : List Piece). EachIn IsWithin xs) (sym c.in-Err.ensures.items) c.requires.within

pub returns-in-Ok-clause-rising : goal.returns-in-Ok-clause-rising
returns-in-Ok-clause-rising c =
    let p = c.args.piece.now in
    let before = rw c.as_slice.ensures.value at c.place_in-at.ensures.before in
    let first = rw c.as_slice.ensures.value at c.place_in-at.ensures.here in
    inserted_rising c.args.order.now.items c.insert.new.self.items c.place_in-at.result p c.in-Ok.ensures.items c.requires.rising before first
    (λ h. false≢true (sym c.if-is_at.false ∙ c.is_at.ensures.1 (h.0, subst (λ (xs : List Piece). slice_get xs c.place_in-at.result ≡ Some h.0) (sym c.as_slice-2.ensures.value) h.1, h.2)))

pub returns-in-Ok-clause-gains : goal.returns-in-Ok-clause-gains
returns-in-Ok-clause-gains c = inserted_gains _ _ c.place_in-at.result c.args.piece.now c.in-Ok.ensures.items
