-- What is made of a source: its whole, and its pieces between places.
use Rattle.std.specs.Prelude.{◌≡◌, ℕ, List, Option, None, Some, []}
use Rattle.fill_tokens.specs.declared.place.Place.{Place}
use Rattle.fill_tree.specs.Tree.{SourceTree, AtomTree, constant, whole, sub}
use Rattle.fill_arena.specs.Contents.{SomeIn}
use Rattle.fill_arena.specs.Stands.{PlaceStands}
use Rattle.fill_arena.specs.declared.entry.Entry.{Entry}
use Rattle.fill_object.specs.declared.valued.Spot.{Spot}

-- the text that is there, or the empty one
abbrev pub text_or_empty : Option (List ℕ) → List ℕ
text_or_empty None = []
text_or_empty (Some t) = t

-- the piece of the source from one place to one of the others
abbrev pub IsPieceTo : SourceTree → Place → List Spot → AtomTree → Type 0
IsPieceTo x p rights a = SomeIn (λ r. a ≡ sub x p r.place) rights

-- the piece from one of the places to one of the others
abbrev pub IsPieceBetweenSpots : SourceTree → List Spot → List Spot → AtomTree → Type 0
IsPieceBetweenSpots x lefts rights a = SomeIn (λ l. IsPieceTo x l.place rights a) lefts

-- the piece of the source from a place of one set to one of another
abbrev pub IsPieceOf : List Entry → SourceTree → ℕ → ℕ → AtomTree → Type 0
IsPieceOf c x lefts rights (constant t) = ⊥
IsPieceOf c x lefts rights (whole y) = ⊥
IsPieceOf c x lefts rights (sub y p q) = (y ≡ x) × PlaceStands c lefts p × PlaceStands c rights q
