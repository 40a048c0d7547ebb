-- What explains examples, and what it answers, over grounds whose rows stand in pairs.
use Rattle.std.proofs.Common.{◌≡◌, ℕ, List, [], ◌∷◌, Option, ap, sym}
use Rattle.fill_tokens.specs.declared.prices.Prices.{Prices}
use Rattle.fill_tree.specs.Chosen.{IsLeast}
use Rattle.fill_tree.specs.Tree.{Atoms}
use Rattle.fill_tree.specs.Value.{IsValue, ProgramIs}
use Rattle.fill_tree.specs.declared.user.Example.{Example}
use Rattle.fill_local.proofs.Paired.{ArePaired, SaySame, SaysSame}
use Rattle.fill_space.specs.Doubt.{AnswersOn, IsDoubtful}
use Rattle.fill_space.specs.Ground.{ChosenOn, ExplainsOn, FitsOn, WeighsOn}
use Rattle.fill_space.specs.declared.ground.Ground.{Ground}
use Rattle.fill_local.proofs.Grammar.{program_in}
use Rattle.fill_local.proofs.Values.{program_same}
use Rattle.fill_local.proofs.Zipped.{zip_all}

-- the same the other way round
pub paired_back : (g h : Ground) (Pair : ℕ → ℕ → Type 0) → ArePaired g h Pair → ArePaired h g (λ q r. Pair r q)
paired_back g h Pair m = record {
  same = record { settings = sym m.same.settings; tables = sym m.same.tables; inputs = sym m.same.inputs };
  cells = λ q r pair column. sym (m.cells r q pair column);
  once = λ q r b a first second. let o = m.once b a q r first second in (o.1, o.0);
}

pub same_back : (Pair : ℕ → ℕ → Type 0) (es ds : List Example) → SaySame Pair es ds → SaySame (λ q r. Pair r q) ds es
same_back Pair [] [] z = tt
same_back Pair [] (d ∷ ds) z = z
same_back Pair (e ∷ es) [] z = z
same_back Pair (e ∷ es) (d ∷ ds) z = (record { row = z.0.row; text = sym z.0.text }, same_back Pair es ds z.1)

pub least_to : (prices now : Prices) → prices ≡ now → (P Q : Atoms → Type 0) → ((p : Atoms) → P p → Q p) → ((p : Atoms) → Q p → P p) → (p : Atoms) → IsLeast prices P p → IsLeast now Q p
least_to prices now same P Q there back p l = let least : IsLeast prices Q p = record { has = there p l.has; least = λ q k. l.least q (back q k) } in rw same at least

module _ (g h : Ground) (Pair : ℕ → ℕ → Type 0) (m : ArePaired g h Pair) where
  pub value_to : (r q : ℕ) → Pair r q → (p : Atoms) → ProgramIs g.sheet g.tables r p ≡ ProgramIs h.sheet h.tables q p
  value_to r q pair p = program_same g.sheet h.sheet r q (m.cells r q pair) g.tables h.tables m.same.tables p

  pub explains_to : (es ds : List Example) → SaySame Pair es ds → (p : Atoms) → ExplainsOn g es p → ExplainsOn h ds p
  explains_to es ds z p x = record {
    in_grammar = coe 0 1 (i. program_in g.settings h.settings g.sheet h.sheet m.same.settings m.same.inputs g.tables h.tables m.same.tables p i) x.in_grammar;
    values = zip_all (SaysSame Pair) (λ e. ProgramIs g.sheet g.tables e.row p e.text) (λ d. ProgramIs h.sheet h.tables d.row p d.text)
        (λ e d same v. coe 0 1 (i. value_to e.row d.row same.row p i (same.text i)) v) es ds z x.values;
  }

  pub fits_to : (es ds : List Example) → SaySame Pair es ds → FitsOn g es → FitsOn h ds
  fits_to es ds z f = (f.0, explains_to es ds z f.0 f.1)

  answers_to : (es ds : List Example) → SaySame Pair es ds → (r q : ℕ) → Pair r q → (o : Option (List ℕ)) → AnswersOn g es r o → AnswersOn h ds q o
  answers_to es ds z r q pair o a = (a.0, explains_to es ds z a.0 a.1, coe 0 1 (i. IsValue (value_to r q pair a.0 i) o) a.2)

  pub doubtful_to : (es ds : List Example) → SaySame Pair es ds → (r q : ℕ) → Pair r q → IsDoubtful g es r → IsDoubtful h ds q
  doubtful_to es ds z r q pair d = (d.0, d.1, answers_to es ds z r q pair d.0 d.2, answers_to es ds z r q pair d.1 d.3, d.4)

module _ (g h : Ground) (Pair : ℕ → ℕ → Type 0) (m : ArePaired g h Pair) (es ds : List Example) (z : SaySame Pair es ds) where
  pub explains_back : (p : Atoms) → ExplainsOn h ds p → ExplainsOn g es p
  explains_back p x = explains_to h g (λ q r. Pair r q) (paired_back g h Pair m) ds es (same_back Pair es ds z) p x

  pub chosen_to : (p : Atoms) → ChosenOn g es p → ChosenOn h ds p
  chosen_to p c = least_to g.settings.profile.prices h.settings.profile.prices (ap (λ s. s.profile.prices) m.same.settings) (ExplainsOn g es) (ExplainsOn h ds) (explains_to g h Pair m es ds z) explains_back p c

  pub weighs_to : (n : ℕ) → WeighsOn g es n → WeighsOn h ds n
  weighs_to n w = (w.0, chosen_to w.0 w.1, rw m.same.settings at w.2)
