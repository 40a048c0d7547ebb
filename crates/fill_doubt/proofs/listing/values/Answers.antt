use Rattle.std.proofs.Common.{◌≡◌, ◌↔◌, List, None, Some, sym, subst}
use Rattle.fill_arena.specs.Contents.{EachIn, In, SomeIn}
use Rattle.fill_eval.specs.Piece.{IsWithin, piece_text}
use Rattle.fill_eval.specs.declared.piece.Piece.{Piece}
use Rattle.fill_doubt.specs.declared.row.OnRow.{OnRow}
use Rattle.fill_doubt.proofs.listing.values.Goals as goal

pub atoms_of-requires-clause-row : goal.atoms_of-requires-clause-row
atoms_of-requires-clause-row c = record { first = c.requires.first; last = c.requires.last; distinguish = c.keeps_keys.ensures; made = c.keeps_made.ensures }

pub atoms_of-requires-clause-memo : goal.atoms_of-requires-clause-memo
atoms_of-requires-clause-memo c =
    let on : OnRow = record { alloc = c.args.alloc; arena = c.args.arena; row = c.args.row; sheet = c.args.sheet; tables = c.args.tables } in
    c.new-memo.ensures on (c.new.ensures c.args.arena.now)

pub sorted-requires : goal.sorted-requires
sorted-requires c = subst (λ (xs : List Piece). EachIn IsWithin xs) (sym c.as_slice.ensures.value) c.in_ok-found.ensures.within

pub returns-clause-exact : goal.returns-clause-exact
returns-clause-exact c v =
    let e = c.in_ok-found.ensures.exact (Some v) in
    let t = subst (λ (xs : List Piece). In v c.in_ok-texts.texts ↔ SomeIn (λ x. piece_text x ≡ v) xs) c.as_slice.ensures.value (c.in_ok-texts.ensures.exact v) in
    ((λ h. e.0 (t.0 h)), (λ h. t.1 (e.1 h)))

pub returns-clause-none : goal.returns-clause-none
returns-clause-none c = c.in_ok-found.ensures.exact None
