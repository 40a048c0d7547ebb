-- Reading from the front of a list of bytes. A symbol of the grammar is a relation R: R a s k where s begins with a text of a and goes on with k.
use Rattle.std.specs.Prelude.{◌≡◌, ℕ, List, [], ◌∷◌, ◌++◌, length, Result, Ok, Err, Option, None, Some}
use Rattle.fill_print.specs.declared.read.error.ReadError.{ReadError}
use Rattle.fill_print.specs.declared.read.error.ReadError.TheVariants.{NoMemory, Bad}

-- they begin with the same byte, or both are empty
abbrev pub SameHead : List ℕ → List ℕ → Type 0
SameHead [] [] = Unit {0}
SameHead [] (c ∷ ys) = ⊥
SameHead (b ∷ xs) [] = ⊥
SameHead (b ∷ xs) (c ∷ ys) = b ≡ c

-- what doesn't begin with this byte
abbrev pub IsNotNext : ℕ → List ℕ → Type 0
IsNotNext c [] = Unit {0}
IsNotNext c (b ∷ xs) = b ≡ c → ⊥

-- t is a text of a, whatever comes after it
abbrev pub Spells : {A : Type 0} → (A → List ℕ → List ℕ → Type 0) → A → List ℕ → Type 0
Spells R a t = (k : List ℕ) → R a (t ++ k) k

-- the bytes begin with a text of a, and rest comes after it
pub record Takes {A : Type 0} (R : A → List ℕ → List ℕ → Type 0) (bytes : List ℕ) (a : A) (rest : List ℕ) : Type 0 where
  pub front : List ℕ
  pub is : bytes ≡ front ++ rest
  pub spelled : Spells R a front

-- The bytes begin with no text of R. All of them but the last `left` begin a longer text; with the next byte, or the end there, none begins so.
pub record Halts {A : Type 0} (R : A → List ℕ → List ℕ → Type 0) (bytes : List ℕ) (left : ℕ) : Type 0 where
  pub front : List ℕ
  pub rest : List ℕ
  pub is : bytes ≡ front ++ rest
  pub size : length rest ≡ left
  pub some : A
  pub next : ℕ
  pub more : List ℕ
  pub viable : Spells R some (front ++ next ∷ more)
  pub wrong : (a : A) (r k : List ℕ) → SameHead rest r → R a (front ++ r) k → ⊥

abbrev pub Fails : {A : Type 0} → (A → List ℕ → List ℕ → Type 0) → List ℕ → ReadError → Type 0
Fails R bytes NoMemory = Unit {0}
Fails R bytes (Bad left) = Halts R bytes left

-- the outcome of a reader: a value with the bytes after its text, or how many bytes were left where it had to stop; out of memory is free
abbrev pub Reads : {X A : Type 0} → (X → A) → (X → List ℕ) → (A → List ℕ → List ℕ → Type 0) → List ℕ → Result X ReadError → Type 0
Reads view after R bytes (Ok x) = Takes R bytes (view x) (after x)
Reads view after R bytes (Err e) = Fails R bytes e

-- first an R, and then a K, which may depend on it
pub record Then {A B : Type 0} (R : A → List ℕ → List ℕ → Type 0) (K : A → B → List ℕ → List ℕ → Type 0) (b : B) (s k : List ℕ) : Type 0 where
  pub item : A
  pub middle : List ℕ
  pub here : R item s middle
  pub later : K item b middle k

-- the end of a chain, with its value
abbrev pub Gives : {B : Type 0} → B → B → List ℕ → List ℕ → Type 0
Gives x b s k = (b ≡ x) × (s ≡ k)

-- a fixed word
abbrev pub Plain : List ℕ → Unit {0} → List ℕ → List ℕ → Type 0
Plain w u s k = s ≡ w ++ k

-- a list: steps of what may come in a state, up to the step that ends it
abbrev pub ManyFrom : {S A : Type 0} → (S → Option A → List ℕ → List ℕ → Type 0) → (S → A → S) → S → List A → List ℕ → List ℕ → Type 0
ManyFrom Step next state [] s k = Step state None s k
ManyFrom Step next state (a ∷ rest) s k = (m : List ℕ) × Step state (Some a) s m × ManyFrom Step next (next state a) rest m k
