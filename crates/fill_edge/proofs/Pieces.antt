-- Pieces of a file and of a written text, one after another.
use Rattle.std.proofs.Common.{◌≡◌, ℕ, ◌+◌, ◌<◌, ◌≤◌, List, [], ◌++◌, length, take, drop, None, Some, refl, sym, ap, ◌∙◌, subst, arith, length-append, length-take, length-drop}
use Rattle.std.specs.Prelude.{Option, ⊤}
use Rattle.std.proofs.Math.Seq.{take-add, take-length}
use Rattle.std.specs.Io.KnownBytes.{Appends}
use Rattle.std.proofs.KnownBytes.{Appends-trans}
use Rattle.fill_edge.specs.Outside.{Files, GivesPiece, IsPieceOf, IsFile, IsMissing, IsTooLong, IsLonger}

-- what was written grows by the next part of the piece
pub Appends-more : (a b c : Option (List ℕ)) (piece : List ℕ) (done n : ℕ) → Appends a b (take done piece) → Appends b c (take n (drop done piece)) → Appends a c (take (done + n) piece)
Appends-more a b c piece done n p q = rw (take-add done n piece) (Appends-trans a b c _ _ p q)

-- the file, if there is one, begins with these bytes; no bytes were read of none
abbrev pub BeginsWith : Option (List ℕ) → List ℕ → Type 0
BeginsWith None bytes = bytes ≡ []
BeginsWith (Some file) bytes = (bytes ≡ take (length bytes) file) × (length bytes ≤ length file)

-- the same of the file of a name, where files are told
abbrev pub IsFrontOf : Files → List ℕ → List ℕ → Type 0
IsFrontOf None name bytes = ⊤
IsFrontOf (Some held) name bytes = BeginsWith (held name) bytes

pub BeginsWith-nil : (file : Option (List ℕ)) → BeginsWith file []
BeginsWith-nil None = refl
BeginsWith-nil (Some file) = (refl, omega arith)

pub IsFrontOf-nil : (files : Files) (name : List ℕ) → IsFrontOf files name []
IsFrontOf-nil None name = tt
IsFrontOf-nil (Some held) name = BeginsWith-nil (held name)

-- the piece that a read gives goes on where the front ends
pub BeginsWith-more : (file : Option (List ℕ)) (front buf : List ℕ) (n : ℕ) → n ≤ length buf → BeginsWith file front → IsPieceOf file (length front) n buf → BeginsWith file (front ++ take n buf)
BeginsWith-more None front buf n le p q = absurd q
BeginsWith-more (Some file) front buf n le p q =
    let len : length (front ++ take n buf) ≡ length front + n = simp (length-append, length-take) (omega arith) in
    let same : front ++ take n buf ≡ take (length front + n) file =
    ap (λ x. x ++ take n buf) p.0 ∙ ap (λ x. take (length front) file ++ x) q.0 ∙ sym (take-add (length front) n file) in
    (same ∙ ap (λ k. take k file) (sym len), rw len (let d : length (drop (length front) file) ≡ _ = length-drop (length front) file in omega arith))

pub IsFrontOf-more : (files : Files) (name front buf : List ℕ) (n : ℕ) → n ≤ length buf → IsFrontOf files name front → GivesPiece files name (length front) n buf → IsFrontOf files name (front ++ take n buf)
IsFrontOf-more None name front buf n le p q = tt
IsFrontOf-more (Some held) name front buf n le p q = BeginsWith-more (held name) front buf n le p q

-- at the end of the file the front is all of it
pub BeginsWith-all : (file : Option (List ℕ)) (front buf : List ℕ) → BeginsWith file front → IsPieceOf file (length front) 0 buf → file ≡ Some front
BeginsWith-all None front buf p q = absurd q
BeginsWith-all (Some file) front buf p q =
    let same : length front ≡ length file = omega (arith, q.2 refl) in
    ap Some (sym (p.0 ∙ ap (λ k. take k file) same ∙ take-length file))

pub IsFrontOf-all : (files : Files) (name front buf : List ℕ) → IsFrontOf files name front → GivesPiece files name (length front) 0 buf → IsFile files name front
IsFrontOf-all None name front buf p q = tt
IsFrontOf-all (Some held) name front buf p q = BeginsWith-all (held name) front buf p q

-- a piece that goes past the limit shows a longer file
pub IsLonger-shown : (file : Option (List ℕ)) (at n limit : ℕ) (buf : List ℕ) → limit < at + n → IsPieceOf file at n buf → at ≤ limit → IsLonger file limit
IsLonger-shown None at n limit buf lt q le = absurd q
IsLonger-shown (Some file) at n limit buf lt q le = let d : length (drop at file) ≡ _ = length-drop at file in omega arith

pub IsTooLong-shown : (files : Files) (name : List ℕ) (at n limit : ℕ) (buf : List ℕ) → limit < at + n → GivesPiece files name at n buf → at ≤ limit → IsTooLong files name limit
IsTooLong-shown None name at n limit buf lt q le = tt
IsTooLong-shown (Some held) name at n limit buf lt q le = IsLonger-shown (held name) at n limit buf lt q le

-- no piece is given of a file that is not there
pub IsMissing-no_piece : {A : Type 0} (files : Files) (name : List ℕ) (at n : ℕ) (buf : List ℕ) → GivesPiece files name at n buf → IsMissing files name → A
IsMissing-no_piece None name at n buf p missing = absurd missing
IsMissing-no_piece (Some held) name at n buf p missing =
    absurd (subst (λ file. IsPieceOf file at n buf) missing p)
