-- what kept values stand for, before and after a call
use Rattle.std.specs.Prelude.{List}

-- what a value stood for, it stands for
abbrev pub Keeps : {K I : Type 0} → (K → List I → Type 0) → (K → List I → Type 0) → Type 0
Keeps {K} {I} before after = (k : K) (l : List I) → before k l → after k l

-- a valid mark stays valid, and marks what it marked and nothing else
pub record KeepsMarks {M K I : Type 0} (valid valid' : M → Type 0) (marked marked' : M → K → List I → Type 0) : Type 0 where
  pub stays : (m : M) → valid m → valid' m
  pub marks : (m : M) (k : K) (l : List I) → valid m → marked m k l → marked' m k l
  pub only : (m : M) (k : K) (l : List I) → valid m → marked' m k l → marked m k l
