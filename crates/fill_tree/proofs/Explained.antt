-- Programs that explain the examples of two lists.
use Rattle.std.proofs.Common.{List, [], ◌∷◌, ◌++◌, All}
use Rattle.std.specs.Prelude.{◌↔◌}
use Rattle.std.proofs.lemmas.List.Elements.{All-nil, All-cons, All-head, All-tail, All-append}
use Rattle.fill_text.specs.Data.{SheetData, TableData}
use Rattle.fill_tree.specs.Tree.{Atoms}
use Rattle.fill_tree.specs.Chosen.{Explains}
use Rattle.fill_tree.specs.Value.{ProgramIs}
use Rattle.fill_tree.specs.declared.user.Settings.{Settings}
use Rattle.fill_tree.specs.declared.user.Example.{Example}

pub all_parts : {A : Type 0} (P : A → Type 0) (xs ys : List A) → All P (xs ++ ys) → All P xs × All P ys
all_parts P [] ys h = (All-nil P, h)
all_parts P (x ∷ xs) ys h =
    let rest = all_parts P xs ys (All-tail P x (xs ++ ys) h) in
    (All-cons P x xs (All-head P x (xs ++ ys) h) rest.0, rest.1)

pub together : (settings : Settings) (sheet : SheetData) (tables : List TableData) (examples others : List Example) (p : Atoms) →
    Explains settings sheet tables (examples ++ others) p
    ↔ (Explains settings sheet tables examples p × Explains settings sheet tables others p)
together settings sheet tables examples others p = (
  λ h.
      let parts = all_parts (λ (e : Example). ProgramIs sheet tables e.row p e.text) examples others h.values in
      (record { in_grammar = h.in_grammar; values = parts.0 }, record { in_grammar = h.in_grammar; values = parts.1 }),
  λ h. record {
    in_grammar = h.0.in_grammar;
    values = All-append (λ (e : Example). ProgramIs sheet tables e.row p e.text) examples others h.0.values h.1.values;
  },
)
