-- Serving keeps to its laws for places, sources and atoms; one more of them with its value.
use Rattle.std.proofs.Common.{◌≡◌, ℕ, List, Option, None, Some, slice_get, refl, sym, subst}
use Rattle.std.specs.Option.{MatchOption}
use Rattle.fill_tokens.specs.Value.{HasValue}
use Rattle.fill_tokens.specs.declared.place.Place.{Place}
use Rattle.fill_tokens.proofs.ValueLaws.{one_value}
use Rattle.fill_tokens.specs.declared.prices.Prices.{Prices}
use Rattle.fill_tree.specs.Meaning.{atom_tree, source_tree}
use Rattle.fill_tree.specs.Value.{IsValue, SourceIs, AtomIs}
use Rattle.fill_eval.proofs.Values.{none_is, some_is}
use Rattle.fill_arena.specs.Contents.{In}
use Rattle.fill_arena.specs.Stands.{PlaceStands}
use Rattle.fill_arena.specs.declared.entry.Entry.{Entry}
use Rattle.fill_arena.specs.declared.entry.Entry.TheVariants.{Places}
use Rattle.fill_tree.specs.Order.{place_rank, source_rank, atom_rank}
use Rattle.fill_arena.proofs.Best.{at_most-itself}
use Rattle.fill_tree.proofs.Ranked.{source_rank-total, source_rank-exact, atom_rank-total, atom_rank-exact, place_rank-total, place_rank-exact}
use Rattle.fill_object.specs.Kinds.{atoms_on, sources_on, spots_in}
use Rattle.fill_object.specs.Leasts.{AreLeasts, Gains, Takes}
use Rattle.fill_object.specs.declared.row.OnRow.{OnRow}
use Rattle.fill_object.specs.declared.valued.Spot.{Spot}
use Rattle.fill_object.specs.declared.valued.ValuedSource.{ValuedSource}
use Rattle.fill_object.specs.declared.valued.ValuedAtom.{ValuedAtom}
use Rattle.fill_object.proofs.Gains.{Laws, valued_laws, gains_take, leasts_same}

pub spots_laws : (prices : Prices) (t : List ℕ) → Laws (spots_in prices t)
spots_laws prices t = valued_laws (λ (x : Spot). x.place) (λ (x : Spot). x.at) (place_rank prices) (λ p. HasValue p t) (place_rank-total prices) (place_rank-exact prices)

pub sources_laws : (on : OnRow) → Laws (sources_on on)
sources_laws on = valued_laws (λ (x : ValuedSource). source_tree x.source) (λ (x : ValuedSource). x.text) (source_rank on.prices.now) (SourceIs on.sheet.now on.tables.now on.row) (source_rank-total on.prices.now) (source_rank-exact on.prices.now)

pub atoms_laws : (on : OnRow) → Laws (atoms_on on)
atoms_laws on = valued_laws (λ (x : ValuedAtom). atom_tree x.atom) (λ (x : ValuedAtom). x.text) (atom_rank on.prices.now) (AtomIs on.sheet.now on.tables.now on.row) (atom_rank-total on.prices.now) (atom_rank-exact on.prices.now)

pub place_is : (p : Place) (t : List ℕ) (o : Option ℕ) → MatchOption o ((k : ℕ) → HasValue p t k → ⊥) (λ k. HasValue p t k) → IsValue (HasValue p t) o
place_is p t None h = none_is (HasValue p t) h
place_is p t (Some k) h = some_is (HasValue p t) k h (λ l m. one_value p t k l h m)

pub gains_spot : (prices : Prices) (t : List ℕ) (x : Spot) (old new : List Spot) → Takes (spots_in prices t).Like old x new → IsValue (HasValue x.place t) x.at → Gains (spots_in prices t) (λ p. p ≡ x.place) old new
gains_spot prices t x old new takes right =
    gains_take (spots_in prices t) (spots_laws prices t) (λ p. p ≡ x.place) old new x takes refl right
    (λ p e. subst (λ q. (spots_in prices t).For q x) (sym e) (at_most-itself (place_rank prices) (place_rank-total prices) (place_rank-exact prices) x.place, right))

pub gains_source : (on : OnRow) (x : ValuedSource) (old new : List ValuedSource) → Takes (sources_on on).Like old x new →
    IsValue (SourceIs on.sheet.now on.tables.now on.row (source_tree x.source)) x.text → Gains (sources_on on) (λ y. y ≡ source_tree x.source) old new
gains_source on x old new takes right =
    gains_take (sources_on on) (sources_laws on) (λ y. y ≡ source_tree x.source) old new x takes refl right
    (λ p e. subst (λ q. (sources_on on).For q x) (sym e) (at_most-itself (source_rank on.prices.now) (source_rank-total on.prices.now) (source_rank-exact on.prices.now) (source_tree x.source), right))

pub gains_atom : (on : OnRow) (x : ValuedAtom) (old new : List ValuedAtom) → Takes (atoms_on on).Like old x new →
    IsValue (AtomIs on.sheet.now on.tables.now on.row (atom_tree x.atom)) x.text → Gains (atoms_on on) (λ y. y ≡ atom_tree x.atom) old new
gains_atom on x old new takes right =
    gains_take (atoms_on on) (atoms_laws on) (λ y. y ≡ atom_tree x.atom) old new x takes refl right
    (λ p e. subst (λ q. (atoms_on on).For q x) (sym e) (at_most-itself (atom_rank on.prices.now) (atom_rank-total on.prices.now) (atom_rank-exact on.prices.now) (atom_tree x.atom), right))

-- the places that are listed are those that stand in the set
pub places_leasts : (prices : Prices) (c : List Entry) (s : ℕ) (t : List ℕ) (places : List Place) (xs : List Spot) → slice_get c s ≡ Some (Places places) →
    AreLeasts (spots_in prices t) (λ p. In p places) xs → AreLeasts (spots_in prices t) (PlaceStands c s) xs
places_leasts prices c s t places xs is are = leasts_same (spots_in prices t) (λ p. In p places) (PlaceStands c s) (λ p h. (places, is, h))
    (λ p h. let there = h.1 in let e : h.0 ≡ places = cc in subst (λ ps. In p ps) e h.2) xs are
