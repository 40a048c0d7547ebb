-- Moves one after the other.
use Rattle.std.proofs.Common.{◌≡◌, ℕ, ◌+◌, ◌<◌, List, [], ◌∷◌, ◌++◌, length, take, set, get_or, Some, refl, sym, ap, ◌∙◌, subst, arith}
use Rattle.std.proofs.lemmas.Grind.{take-set_at}
use Rattle.fill_split.proofs.Zips.{take_next}
use Rattle.fill_space.specs.declared.ground.Ground.{Ground}
use Rattle.fill_session.specs.Made.{AreMade, MoveIs, move_term}
use Rattle.fill_session.specs.Timeline.{Timeline}
use Rattle.fill_session.specs.declared.moves.Move.{Move}
use Rattle.fill_session.specs.declared.moves.Reply.{Reply}
use Rattle.fill_session.proofs.Picked.{here}

-- one move more
made_more : (g : Ground) (a mid b : Timeline) (moves : List Move) (replies : List Reply) (n : ℕ) (m : Move) (r : Reply)
    → AreMade g a moves replies n mid → MoveIs g mid m r b → AreMade g a (moves ++ m ∷ []) (replies ++ r ∷ []) (n + move_term g.sheet mid.examples m) b
made_more g a mid b [] [] n m r h k =
    let none = h.0 in
    let same : move_term g.sheet mid.examples m ≡ move_term g.sheet a.examples m = ap (λ (t : Timeline). move_term g.sheet t.examples m) h.1 in
    (b, 0, subst (λ (t : Timeline). MoveIs g t m r b) h.1 k, omega arith, (refl, refl))
made_more g a mid b [] (s ∷ replies) n m r h k = absurd h
made_more g a mid b (d ∷ moves) [] n m r h k = absurd h
made_more g a mid b (d ∷ moves) (s ∷ replies) n m r h k =
    let terms = h.3 in
    (h.0, h.1 + move_term g.sheet mid.examples m, h.2, omega arith, made_more g h.0 mid b moves replies h.1 m r h.4 k)

-- the same of the first moves of a list, whose replies are written in their places
pub made_next : (g : Ground) (a mid b : Timeline) (moves : List Move) (replies : List Reply) (n i : ℕ) (m : Move) (r : Reply)
    → i < length moves → length replies ≡ length moves → m ≡ get_or moves i m → AreMade g a (take i moves) (take i replies) n mid → MoveIs g mid m r b
    → AreMade g a (take (i + 1) moves) (take (i + 1) (set replies i r)) (n + move_term g.sheet mid.examples m) b
made_next g a mid b moves replies n i m r lt long is h k =
    let first : take (i + 1) moves ≡ take i moves ++ m ∷ [] = take_next moves i m (here moves i m lt ∙ ap Some (sym is)) in
    let second : take (i + 1) (set replies i r) ≡ take i replies ++ r ∷ [] = take-set_at replies i (i + 1) r refl (omega arith) in
    let all = n + move_term g.sheet mid.examples m in
    subst (λ (v : List Move). AreMade g a v (take (i + 1) (set replies i r)) all b) (sym first)
    (subst (λ (v : List Reply). AreMade g a (take i moves ++ m ∷ []) v all b) (sym second)
    (made_more g a mid b (take i moves) (take i replies) n m r h k))
