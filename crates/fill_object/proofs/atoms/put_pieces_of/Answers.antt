use Rattle.std.proofs.Common.{◌≡◌, ℕ, List, Vec, Global, sym, subst}
use Rattle.fill_tokens.specs.declared.prices.Prices.{Prices}
use Rattle.fill_tree.specs.Meaning.{source_tree}
use Rattle.fill_arena.specs.Stands.{PlaceStands}
use Rattle.fill_arena.specs.declared.entry.Entry.{Entry}
use Rattle.fill_arena.proofs.Items.{ok_on}
use Rattle.fill_object.specs.Kinds.{atoms_on, spots_in}
use Rattle.fill_object.specs.Leasts.{AreLeasts}
use Rattle.fill_object.specs.Pieces.{IsPieceBetweenSpots, IsPieceOf, text_or_empty}
use Rattle.fill_object.specs.declared.valued.Spot.{Spot}
use Rattle.fill_object.proofs.Gains.{gains_through}
use Rattle.fill_object.proofs.KindLaws.{atoms_laws}
use Rattle.fill_object.proofs.Made.{between_of, of_between}
use Rattle.fill_object.proofs.atoms.put_pieces_of.Goals as goal

-- what was found of a set, as a slice
spots_slice : (prices : Prices) (c : List Entry) (s : ℕ) (t u : List ℕ) (list held : Vec Spot Global) (slice : List Spot) → t ≡ u → held ≡ list → slice ≡ held.items →
    AreLeasts (spots_in prices t) (PlaceStands c s) list.items → AreLeasts (spots_in prices u) (PlaceStands c s) slice
spots_slice prices c s t u list held slice e f g are =
    subst (AreLeasts (spots_in prices u) (PlaceStands c s)) (sym g)
    (subst (λ (v : Vec Spot Global). AreLeasts (spots_in prices u) (PlaceStands c s) v.items) (sym f) (subst (λ w. AreLeasts (spots_in prices w) (PlaceStands c s) list.items) e are))

pub returns-clause-gains : goal.returns-clause-gains
returns-clause-gains c =
    let on = c.args.on.now in
    let x = source_tree c.args.source.now.source in
    let o = c.args.source.now.text in
    let l = c.args.lefts in
    let r = c.args.rights in
    let t = c.text_or-text.result.now in
    let lefts = c.as_slice.result.now in
    let rights = c.as_slice-2.result.now in
    let from = spots_slice on.prices.now on.arena.now l t (text_or_empty o) c.in_ok-from.from.value c.deref.result.now lefts c.text_or-text.ensures c.deref.ensures c.as_slice.ensures.value c.in_ok-from.ensures.least in
    let to = spots_slice on.prices.now on.arena.now r t (text_or_empty o) c.in_ok-to.to.value c.deref-2.result.now rights c.text_or-text.ensures c.deref-2.ensures c.as_slice-2.ensures.value c.in_ok-to.ensures.least in
    ok_on _ _ c.put_between.result c.put_between.ensures
    (λ u h. gains_through (atoms_on on) (atoms_laws on) (IsPieceBetweenSpots x lefts rights) (IsPieceOf on.arena.now x l r) (between_of on x o c.requires.source l r lefts rights from to)
    (of_between on x o c.requires.source l r lefts rights from to) c.args.rivals.now.items c.put_between.new.rivals.items h)

pub returns-clause-memo : goal.returns-clause-memo
returns-clause-memo c =
    ok_on _ _ c.put_between.result c.put_between.ensures
    (λ u h. record { sources = c.requires.memo.sources; parts = c.requires.memo.parts; atoms = c.requires.memo.atoms; spots = c.in_ok-to.ensures.memo })
