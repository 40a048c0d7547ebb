-- What keeps the rules by tokens of a set keeps them by tokens of a larger one.
use Rattle.std.proofs.Common.{List, [], ◌∷◌, Option, None, Some, get_or}
use Rattle.std.specs.Prelude.{IfSome}
use Rattle.fill_tokens.specs.TokenSet.{AreTokensOf, IsPlaceOf, IsTokenOf}
use Rattle.fill_tokens.specs.declared.token.Token.{Token}
use Rattle.fill_tokens.specs.declared.token_set.TokenSet.{TokenSet}
use Rattle.fill_tokens.specs.declared.place.Place.{Place}
use Rattle.fill_tokens.specs.declared.place.Place.TheVariants.{CPos, Pos}
use Rattle.fill_tree.specs.Tree.{SourceTree, AtomTree, Atoms, col, select, constant, whole, sub, end, more}
use Rattle.fill_tree.specs.Switch.{CaseTree, SwitchTree}
use Rattle.fill_tree.specs.declared.guard.Literal.{Literal}
use Rattle.fill_print.specs.Rules.{AreCases, AreConditions, IsAtom, IsCondition, IsLiteral, IsProgram, IsSource, IsSwitch}

module _ (small large : TokenSet) (grow : (x : Token) → IsTokenOf small x → IsTokenOf large x) where
  tokens_grow : (r : List Token) → AreTokensOf small r → AreTokensOf large r
  tokens_grow r h = λ i d lt. grow (get_or r i d) (h i d lt)

  place_grows : (p : Place) → IsPlaceOf small p → IsPlaceOf large p
  place_grows (CPos k) h = (h.0, tt)
  place_grows (Pos r s c) h = (h.0, (tokens_grow r h.1.0, tokens_grow s h.1.1))

  mutual
    source_grows : (x : SourceTree) → IsSource small x → IsSource large x
    source_grows (col c) h = h
    source_grows (select column table key conditions) h = (h.0, h.1, h.2, h.3, h.4, conditions_grow conditions h.5)

    condition_grows : (a : AtomTree) → IsCondition small a → IsCondition large a
    condition_grows (constant t) h = h
    condition_grows (whole x) h = source_grows x h
    condition_grows (sub x p q) h = (source_grows x h.0, place_grows p h.1, place_grows q h.2)

    conditions_grow : (cs : Atoms) → AreConditions small cs → AreConditions large cs
    conditions_grow end h = tt
    conditions_grow (more a rest) h = (condition_grows a h.0, conditions_grow rest h.1)

  atom_grows : (a : AtomTree) → IsAtom small a → IsAtom large a
  atom_grows (constant t) h = h
  atom_grows (whole x) h = (source_grows x h.0, h.1)
  atom_grows (sub x p q) h = (source_grows x h.0, h.1, place_grows p h.2, place_grows q h.3)

  program_grows : (p : Atoms) → IsProgram small p → IsProgram large p
  program_grows end h = tt
  program_grows (more a rest) h = (atom_grows a h.0, program_grows rest h.1)

  literal_grows : (l : Literal) → IsLiteral small l → IsLiteral large l
  literal_grows l h = record {
    column = h.column;
    some = h.some;
    few = h.few;
    start = h.start;
    finish = h.finish;
    tokens = tokens_grow l.seq h.tokens;
    least = h.least;
    most = h.most;
  }

  second_grows : (o : Option Literal) → IfSome o (IsLiteral small) → IfSome o (IsLiteral large)
  second_grows None h = tt
  second_grows (Some l) h = literal_grows l h

  cases_grow : (cs : List CaseTree) → AreCases small cs → AreCases large cs
  cases_grow [] h = tt
  cases_grow (c ∷ rest) h = (((literal_grows c.guard.first h.0.0.0, second_grows c.guard.second h.0.0.1), program_grows c.program h.0.1), cases_grow rest h.1)

  pub switch_grows : (s : SwitchTree) → IsSwitch small s → IsSwitch large s
  switch_grows s h = (h.0, cases_grow s.cases h.1, program_grows s.last h.2)
