-- What is told of a graph's programs, by what is found on its edges.
use Rattle.std.proofs.Common.{◌≡◌, ◌↔◌, ℕ, ◌-◌, List, ◌++◌, length, take, Bool, true, false, Option, None, Some, Result, Ok, Err, IfOk, OnOk, IsTrue, MatchBool, MatchOption, slice_get, ◌∙◌, sym, subst, arith}
use Rattle.std.proofs.lemmas.Bool.{false≢true}
use Rattle.std.proofs.lemmas.List.{take_all, take-append-le}
use Rattle.fill_arena.specs.Contents.{SomeIn}
use Rattle.fill_arena.specs.Stands.{ProgramStands, Walks}
use Rattle.fill_arena.specs.declared.entry.Edge.{Edge}
use Rattle.fill_tree.specs.Tree.{Atoms}
use Rattle.fill_doubt.specs.Gives.{Differ}
use Rattle.fill_doubt.specs.Memo.{AreEdgesOn, EdgeAnswers, IsOnRow}
use Rattle.fill_doubt.specs.Walks.{Reads, Differs}
use Rattle.fill_doubt.specs.declared.row.OnRow.{OnRow}
use Rattle.fill_doubt.proofs.Programs.{differ_differs, edges_fine}
use Rattle.fill_doubt.proofs.Spelling.{AreFine, differs_some, lack_differs}

pub if_ok : {A E : Type 0} {P Q : A → Type 0} (r : Result A E) → IfOk r P → ((x : A) → P x → Q x) → IfOk r Q
if_ok (Ok x) h f = f x h
if_ok (Err e) h f = h

pub on_ok : {A E : Type 0} {P Q : Type 0} (r : Result A E) → OnOk r P → (P → Q) → OnOk r Q
on_ok (Ok x) h f = f h
on_ok (Err e) h f = h

pub on_two : {A E : Type 0} {P Q R : Type 0} (r : Result A E) → OnOk r P → OnOk r Q → (P → Q → R) → OnOk r R
on_two (Ok x) h g f = f h g
on_two (Err e) h g f = h

pub match_true : (P Q : Type 0) (b : Bool) → MatchBool b P Q → b ≡ true → P
match_true P Q true h e = h
match_true P Q false h e = absurd (false≢true e)

pub match_false : (P Q : Type 0) (b : Bool) → MatchBool b P Q → b ≡ false → Q
match_false P Q true h e = absurd (false≢true (sym e))
match_false P Q false h e = h

pub match_map : {A B P Q : Type 0} (b : Bool) → MatchBool b A B → (A → P) → (B → Q) → MatchBool b P Q
match_map true h f g = f h
match_map false h f g = g h

pub match_none : {A : Type 0} (P : Type 0) (Q : A → Type 0) (o : Option A) → MatchOption o P Q → o ≡ None → P
match_none P Q None h e = h
match_none P Q (Some x) h e = absurd cc

pub match_some : {A : Type 0} (P : Type 0) (Q : A → Type 0) (o : Option A) (x : A) → MatchOption o P Q → o ≡ Some x → Q x
match_some P Q None x h e = absurd cc
match_some P Q (Some y) x h e = let one : y ≡ x = cc in subst Q one h

pub match_option : {A P Q : Type 0} {R S : A → Type 0} (o : Option A) → MatchOption o P R → (P → Q) → ((x : A) → R x → S x) → MatchOption o Q S
match_option None h f g = f h
match_option (Some x) h f g = g x h

-- what a slice that was lent gives back
pub written : {A : Type 0} (new rest : List A) (n : ℕ) → n ≡ length new → take n (new ++ rest) ≡ new
written new rest n e = take-append-le n new rest (omega arith) ∙ take_all n new (omega arith)

pub fine_on : (on : OnRow) → IsOnRow on → (nodes : ℕ) (edges : List Edge) → AreEdgesOn on nodes edges → AreFine (EdgeAnswers on) nodes edges
fine_on on ok nodes edges are = edges_fine on.arena.now on.sheet.now on.tables.now ok.distinguish on.row are.0 nodes edges ok.made are.1

module _ (on : OnRow) (ok : IsOnRow on) (g nodes : ℕ) (edges : List Edge) (stands : (p : Atoms) → ProgramStands on.arena.now g p ↔ Walks p on.arena.now edges (nodes - 1) 0) where
  same : Differs (EdgeAnswers on) edges (nodes - 1) ↔ Differ on.arena.now on.sheet.now on.tables.now on.row g
  same = differ_differs on.arena.now on.sheet.now on.tables.now ok.distinguish on.row g nodes edges stands

  pub by_differs : (b : Bool) → (IsTrue b ↔ Differs (EdgeAnswers on) edges (nodes - 1)) → IsTrue b ↔ Differ on.arena.now on.sheet.now on.tables.now on.row g
  by_differs b h = ((λ t. same.0 (h.0 t)), (λ d. h.1 (same.1 d)))

  -- where some atom has no value, there is a difference where some program has one
  pub by_value : AreEdgesOn on nodes edges → SomeIn (λ e. EdgeAnswers on e None) edges → (b : Bool) → (IsTrue b ↔ ((t : List ℕ) × Reads (EdgeAnswers on) edges 0 (nodes - 1) (Some t)))
      → IsTrue b ↔ Differ on.arena.now on.sheet.now on.tables.now on.row g
  by_value are lacks b h =
      let fine = fine_on on ok nodes edges are in (
        (λ t. let r = h.0 t in same.0 (lack_differs (EdgeAnswers on) edges nodes fine lacks r.0 r.1)),
        (λ d. h.1 (differs_some (EdgeAnswers on) edges (nodes - 1) (same.1 d))),
      )

-- an edge without a text has an atom without a value
pub lacks_one : (G : Edge → Option (List ℕ) → Type 0) (nodes : ℕ) (edges : List Edge) → AreFine G nodes edges → (i : ℕ) (e : Edge) → slice_get edges i ≡ Some e → ((t : List ℕ) → ¬ (G e (Some t))) → SomeIn (λ d. G d None) edges
lacks_one G nodes edges fine i e at none = by (fine.answers i e at).0 (fine.answers i e at).1
  where
    by : (o : Option (List ℕ)) → G e o → SomeIn (λ d. G d None) edges
    by None g = (e, (i, at), g)
    by (Some t) g = absurd (none t g)
