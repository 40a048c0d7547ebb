use Rattle.std.proofs.Common.{◌≡◌, ◌+◌, ◌++◌, ◌∷◌, [], ℕ, length, sym, subst, ap, ◌∙◌, true}
use Rattle.fill_places.specs.declared.entry.Entry.{Entry}
use Rattle.fill_places.specs.Marks.{AreAll}
use Rattle.fill_places.specs.Sides.{RightAt}
use Rattle.fill_places.specs.Entries.{Entries, HasLength}
use Rattle.fill_places.proofs.MarkLaws.{right_everywhere}
use Rattle.fill_places.proofs.LayerLaws.{first_layer}
use Rattle.fill_places.proofs.rights.first_rights.Goals as goal

pub returns : goal.returns
returns c =
    let t = c.args.t.now in
    let e : Entry = c.in_ok-e.e in
    let items : c.push_entry.new.out.items ≡ e ∷ [] = c.in_ok-push_entry.ensures ∙ ap (λ z. z ++ e ∷ []) c.new-out.ensures.items in
    let given = c.in_ok-e.ensures in
    let all : AreAll true (length t + 1) e.at = subst (λ (m : ℕ). AreAll true (m + 1) e.at) c.len.ensures.value given.1 in
    subst (Entries (RightAt c.args.token_set t) (length t) (HasLength 0)) (sym items) (first_layer (RightAt c.args.token_set t) (length t) e given.0 (right_everywhere c.args.token_set t e.at all))
