-- Which row in doubt comes first.
use Rattle.std.proofs.Common.{◌≡◌, ◌⊎◌, inl, inr, Bool, ℕ, suc, ◌<◌, ◌≤◌, List, length, Option, None, Some, false, true, refl, sym, ap, subst, ◌∙◌, arith}
use Rattle.std.proofs.lemmas.Bool.{cases_lt, false≢true}
use Rattle.std.proofs.lemmas.Option.{same_Some}
use Rattle.std.specs.Cmp.{nat_cmp_is}
use Rattle.std.specs.Prelude.{option_map}
use Rattle.std.specs.declared.cmp.Ordering.{Ordering}
use Rattle.std.specs.declared.cmp.Ordering.TheVariants.{Less, Equal, Greater}
use Rattle.std.specs.Ordering.{nat_cmp, ordering_then}
use Rattle.fill_tokens.specs.declared.prices.Prices.{Prices}
use Rattle.fill_tree.specs.Meaning.{program_tree}
use Rattle.fill_tree.specs.Order.{Before, program_cmp}
use Rattle.fill_tree.specs.declared.user.Example.{Example}
use Rattle.fill_tree.proofs.ProgramOrder.{before_trans, exact_programs, program_cmp-same}
use Rattle.fill_space.specs.Objector.{ObjectionTree}
use Rattle.fill_space.specs.declared.ground.Ground.{Ground}
use Rattle.fill_session.specs.Objector.{ObjectorIs}
use Rattle.fill_session.specs.Suggested.{Asked, FirstAsked, IsAsked, IsAskedAt, NoneAsked, SuggestionIs, asked_cmp, asked_of, is_silent, rank_of}
use Rattle.fill_session.specs.declared.suggestion.Suggestion.{Suggestion}
use Rattle.fill_session.proofs.Objecting.{objector_is_one}

less_nat : (x y : ℕ) → nat_cmp x y ≡ Less → x < y
less_nat x y h = elim (cases_lt x y) [
  | inl lt ↦ lt
  | inr ge ↦ elim (cases_lt y x) [
    | inl gt ↦ absurd (let d = nat_cmp_is x y Greater gt in cc)
    | inr le ↦ absurd (let same : x ≡ y = omega arith in let d = nat_cmp_is x y Equal same in cc)
  ]
]

same_nat : (x : ℕ) → nat_cmp x x ≡ Equal
same_nat x = sym (nat_cmp_is x x Equal refl)

pub less_cases : (a b : Ordering) → ordering_then a b ≡ Less → (a ≡ Less) ⊎ ((a ≡ Equal) × (b ≡ Less))
less_cases Less b h = inl refl
less_cases Equal b h = inr (refl, h)
less_cases Greater b h = absurd (let e = h in cc)

rank_same : (a b : Option (List ℕ)) → is_silent a ≡ is_silent b → rank_of a ≡ rank_of b
rank_same None None h = refl
rank_same None (Some y) h = absurd (false≢true (sym h))
rank_same (Some x) None h = absurd (false≢true h)
rank_same (Some x) (Some y) h = refl

-- one of two rows of one rank that comes first has the earlier objector, or the same and stands above
asked_less : (prices : Prices) (p q : Asked) → is_silent p.said ≡ is_silent q.said → asked_cmp prices p q ≡ Less
    → Before prices p.objector.program q.objector.program ⊎ ((p.objector.program ≡ q.objector.program) × (p.row < q.row))
asked_less prices p q alike h =
    let rest = ordering_then (program_cmp prices p.objector.program q.objector.program) (nat_cmp p.row q.row) in
    let rank : nat_cmp (rank_of p.said) (rank_of q.said) ≡ Equal = ap (λ n. nat_cmp (rank_of p.said) n) (sym (rank_same p.said q.said alike)) ∙ same_nat (rank_of p.said) in
    let less : rest ≡ Less = subst (λ o. ordering_then o rest ≡ Less) rank h in
    elim (less_cases (program_cmp prices p.objector.program q.objector.program) (nat_cmp p.row q.row) less) [
      | inl before ↦ inl before
      | inr tie ↦ inr (exact_programs prices p.objector.program q.objector.program tie.0, less_nat p.row q.row tie.1)
    ]

module _ (g : Ground) (examples : List Example) (passed : List ℕ) where
  -- two rows in doubt that are one have one objector
  one_objector : (p q : Asked) → IsAsked g examples passed p → IsAsked g examples passed q → p.row ≡ q.row → p.objector ≡ q.objector
  one_objector p q h k e =
      same_Some p.objector q.objector (objector_is_one g examples q.row (Some p.objector) (Some q.objector) (subst (λ r. ObjectorIs g examples r (Some p.objector)) e h.objector) k.objector)

  -- a row does not come before itself
  not_itself : (p q : Asked) → IsAsked g examples passed p → IsAsked g examples passed q → p.row ≡ q.row → is_silent p.said ≡ is_silent q.said → ¬ (asked_cmp g.settings.profile.prices p q ≡ Less)
  not_itself p q h k e alike less =
      let one = one_objector p q h k e in
      elim (asked_less g.settings.profile.prices p q alike less) [
        | inl before ↦ (let b : Before g.settings.profile.prices q.objector.program q.objector.program = subst (λ (o : ObjectionTree). Before g.settings.profile.prices o.program q.objector.program) one before in
            let same = program_cmp-same g.settings.profile.prices q.objector.program in
            absurd (let d = sym same ∙ b in cc))
        | inr tie ↦ (let lt = tie.1 in absurd (omega arith))
      ]

  -- one more row
  module _ (silent : Bool) (above : ℕ) where
    below_or_here : (n : ℕ) → n ≤ suc above → (n ≤ above) ⊎ (n ≡ suc above)
    below_or_here n le = elim (cases_lt n (suc above)) [ inl lt ↦ inl (omega arith) | inr ge ↦ inr (omega arith) ]

    -- it is not asked, or its objector comes no earlier
    pub none_more : (best : Option Suggestion) → FirstAsked g examples passed silent above best → NoneAsked g examples passed silent (suc above) best → FirstAsked g examples passed silent (suc above) best
    none_more None h none = λ q asked alike le. elim (below_or_here q.row le) [ inl less ↦ h q asked alike less | inr here ↦ none q asked alike here tt ]
    none_more (Some s) h none = (
      h.0,
      h.1,
      (let le = h.2 in omega arith),
      λ p asked alike le. elim (below_or_here p.row le) [
        | inl less ↦ h.3 p asked alike less
        | inr here ↦ λ before. elim (asked_less g.settings.profile.prices p (asked_of s) (alike ∙ sym h.1) before) [
          | inl earlier ↦ none p asked alike here earlier
          | inr tie ↦ (let lt = tie.1 in let under = h.2 in absurd (omega arith))
        ]
      ],
    )

    -- it comes first
    pub next_first : (best : Option Suggestion) (next : Suggestion) → FirstAsked g examples passed silent above best → IsAskedAt g examples passed silent (suc above) best next → FirstAsked g examples passed silent (suc above) (Some next)
    next_first None next h at = (
      at.asked,
      at.kind,
      (let e = at.here in omega arith),
      λ p asked alike le. elim (below_or_here p.row le) [
        | inl less ↦ absurd (h p asked alike less)
        | inr here ↦ not_itself p (asked_of next) asked at.asked (here ∙ sym at.here) (alike ∙ sym at.kind)
      ],
    )
    next_first (Some s) next h at = (
      at.asked,
      at.kind,
      (let e = at.here in omega arith),
      λ p asked alike le. elim (below_or_here p.row le) [
        | inl less ↦ λ before. h.3 p asked alike less (earlier p alike less before)
        | inr here ↦ not_itself p (asked_of next) asked at.asked (here ∙ sym at.here) (alike ∙ sym at.kind)
      ],
    )
      where
        then_less : (o : Ordering) (p : Asked) → is_silent p.said ≡ is_silent s.answer → Before g.settings.profile.prices p.objector.program (program_tree s.objection.program) → asked_cmp g.settings.profile.prices p (asked_of s) ≡ Less
        then_less o p alike before =
            ap (λ x. ordering_then x (ordering_then (program_cmp g.settings.profile.prices p.objector.program (program_tree s.objection.program)) (nat_cmp p.row s.row)))
            (ap (λ n. nat_cmp (rank_of p.said) n) (sym (rank_same p.said s.answer alike)) ∙ same_nat (rank_of p.said))
            ∙ ap (λ x. ordering_then x (nat_cmp p.row s.row)) before

        earlier : (p : Asked) → is_silent p.said ≡ silent → p.row ≤ above → asked_cmp g.settings.profile.prices p (asked_of next) ≡ Less → asked_cmp g.settings.profile.prices p (asked_of s) ≡ Less
        earlier p alike less before =
            elim (asked_less g.settings.profile.prices p (asked_of next) (alike ∙ sym at.kind) before) [
              | inl b ↦ then_less Less p (alike ∙ sym h.1) (before_trans g.settings.profile.prices p.objector.program (program_tree next.objection.program) (program_tree s.objection.program) b at.earlier)
              | inr tie ↦ then_less Less p (alike ∙ sym h.1) (subst (λ t. Before g.settings.profile.prices t (program_tree s.objection.program)) (sym tie.0) at.earlier)
            ]

  -- the row to look at next: a silent one, or else one with an answer
  module _ (rows : ℕ) (all : rows ≡ length g.sheet.rows) where
    within : (p : Asked) → IsAsked g examples passed p → p.row ≤ rows
    within p asked = let le = asked.last in omega arith

    pub silent_suggested : (s : Suggestion) → FirstAsked g examples passed true rows (Some s) → SuggestionIs g examples passed (Some (asked_of s))
    silent_suggested s h = (h.0, λ p asked. by p.said p refl asked)
      where
        by : (said : Option (List ℕ)) (p : Asked) → p.said ≡ said → IsAsked g examples passed p → ¬ (asked_cmp g.settings.profile.prices p (asked_of s) ≡ Less)
        by None p e asked = h.3 p asked (ap is_silent e) (within p asked)
        by (Some text) p e asked = λ less. (
            let rank : rank_of s.answer ≡ 0 = rank_same s.answer None h.1 in
            let more : nat_cmp (rank_of p.said) (rank_of s.answer) ≡ Greater = ap (λ n. nat_cmp n (rank_of s.answer)) (ap rank_of e) ∙ ap (λ n. nat_cmp 1 n) rank ∙ sym (nat_cmp_is 1 0 Greater (omega arith)) in
            elim (less_cases _ _ less) [ inl l ↦ (let d = sym more ∙ l in cc) | inr t ↦ (let d = sym more ∙ t.0 in cc) ])

    pub other_suggested : (found : Option Suggestion) → FirstAsked g examples passed true rows None → FirstAsked g examples passed false rows found → SuggestionIs g examples passed (option_map asked_of found)
    other_suggested None none h = λ q asked. by q.said q refl asked
      where
        by : (said : Option (List ℕ)) (p : Asked) → p.said ≡ said → IsAsked g examples passed p → ⊥
        by None p e asked = none p asked (ap is_silent e) (within p asked)
        by (Some text) p e asked = h p asked (ap is_silent e) (within p asked)
    other_suggested (Some s) none h = (h.0, λ p asked. by p.said p refl asked)
      where
        by : (said : Option (List ℕ)) (p : Asked) → p.said ≡ said → IsAsked g examples passed p → ¬ (asked_cmp g.settings.profile.prices p (asked_of s) ≡ Less)
        by None p e asked = absurd (none p asked (ap is_silent e) (within p asked))
        by (Some text) p e asked = h.3 p asked (ap is_silent e) (within p asked)
