-- How far constants of separators go.
use Rattle.std.proofs.Common.{◌≡◌, ℕ, ◌+◌, ◌<◌, ◌≤◌, inl, inr, true, false, List, length, take, get_or, sym, ◌∙◌, subst, arith, length-take}
use Rattle.std.proofs.lemmas.Bool.{cases_lt}
use Rattle.std.proofs.lemmas.List.{get_or-take, take-take}
use Rattle.std.proofs.lemmas.List.Elements.{All-take, All-more, All-get_or}
use Rattle.fill_text.specs.Classes.{is_separator}
use Rattle.fill_tree.specs.Grammar.{Allows}
use Rattle.fill_tree.specs.declared.user.Constants.TheVariants.{Separators}
use Rattle.fill_build.specs.Pieces.{AreAllowed}

-- one separator
abbrev Separates : ℕ → Type 0
Separates c = is_separator c ≡ true

module _ (t : List ℕ) (i d : ℕ) where
  pub allowed_more : i < length t → Allows Separators (take i t) → is_separator (get_or t i d) ≡ true → Allows Separators (take (i + 1) t)
  allowed_more lt all one = All-more Separates t i d lt all one

  fewer : (m : ℕ) → m ≤ i → Allows Separators (take i t) → Allows Separators (take m t)
  fewer m le all = subst (Allows Separators) (take-take m i t le) (All-take Separates m (take i t) all)

  pub allowed_end : length t ≤ i → Allows Separators (take i t) → AreAllowed Separators t (length t)
  allowed_end end all m le = (λ _. fewer m (omega arith) all, λ _. le)

  pub allowed_stop : i < length t → Allows Separators (take i t) → is_separator (get_or t i d) ≡ false → AreAllowed Separators t i
  allowed_stop lt all none m le = (
    λ less. fewer m less all,
    λ more. elim (cases_lt i m) [
      | inl past ↦
          let long = length-take m t in
          let one = All-get_or Separates (take m t) i d (omega arith) more in
          let here : is_separator (get_or t i d) ≡ true = subst Separates (get_or-take m t i d past) one in
          absurd (let clash = sym none ∙ here in cc)
      | inr less ↦ less
    ],
  )
