-- The steps of the loop that gives the ties their edges.
use Rattle.std.proofs.Common.{◌≡◌, ℕ, ◌+◌, ◌<◌, ◌≤◌, inl, inr, Bool, List, [], ◌∷◌, ◌++◌, length, Some, slice_get, sym, ap, ◌∙◌, subst, arith}
use Rattle.std.proofs.lemmas.Bool.{cases_lt}
use Rattle.std.proofs.lemmas.Option.{slice_get_within}
use Rattle.fill_arena.specs.Contents.{Extends}
use Rattle.fill_arena.specs.Order.{IsTopological}
use Rattle.fill_arena.specs.Stands.{AtomStands}
use Rattle.fill_arena.specs.declared.entry.Entry.{Entry}
use Rattle.fill_arena.specs.declared.entry.Edge.{Edge}
use Rattle.fill_arena.proofs.Lists.{get_pushed}
use Rattle.fill_trim.specs.Marks.{IsMarked}
use Rattle.fill_meet.specs.Meet.{AreApart}
use Rattle.fill_meet.specs.Joins.{IsJoined, IsDone, IsJoinedTo, AreJoined}
use Rattle.fill_meet.specs.Ties.{AreOrdered, NameSets}
use Rattle.fill_meet.specs.declared.ties.Tie.{Tie}
use Rattle.fill_meet.proofs.Lists.{same_value, get_empty, in_last, some_more}
use Rattle.fill_meet.proofs.Grows.{atoms_stay, met_stay, apart_stay}

-- the edge of a tie before place i
abbrev pub IsJoinedBefore : List Entry → List Tie → ℕ → Edge → Type 0
IsJoinedBefore c ties i e = (k : ℕ) × (t : Tie) × (k < i) × (slice_get ties k ≡ Some t) × IsJoined c t e

-- edges of the ties before place i
pub record JoinedSoFar (c : List Entry) (live : List Bool) (ties : List Tie) (i : ℕ) (edges : List Edge) : Type 0 where
  pub sound : (j : ℕ) (e : Edge) → slice_get edges j ≡ Some e → IsJoinedBefore c ties i e
  pub covers : (k : ℕ) (t : Tie) → k < i → slice_get ties k ≡ Some t → IsMarked live t.to → IsDone c edges t
  pub ordered : IsTopological edges

pub joined_start : (c : List Entry) (live : List Bool) (ties : List Tie) (edges : List Edge) → edges ≡ [] → JoinedSoFar c live ties 0 edges
joined_start c live ties edges none =
    record {
      sound = λ j e h. absurd (get_empty j e edges none h);
      covers = λ k t lt. absurd (omega arith);
      ordered = λ j k e f h. absurd (get_empty j e edges none h);
    }

module _ (c d : List Entry) (o : Extends c d) where
  pub sets_stay : (ties : List Tie) → NameSets c ties → NameSets d ties
  sets_stay ties s k t h = let both = s k t h in (atoms_stay c d o t.left both.0, atoms_stay c d o t.right both.1)

  joined_on : (t : Tie) (e : Edge) → IsJoined c t e → IsJoined d t e
  joined_on t e j = record { from = j.from; to = j.to; met = met_stay c d o AtomStands t.left t.right e.atoms j.met }

  pub joined_stays : (live : List Bool) (ties : List Tie) (i : ℕ) (edges : List Edge) → JoinedSoFar c live ties i edges → JoinedSoFar d live ties i edges
  joined_stays live ties i edges s =
      record {
        sound = λ j e h. (let b = s.sound j e h in (b.0, b.1, b.2, b.3, joined_on b.1 e b.4));
        covers = λ k t lt h m. elim (s.covers k t lt h m) [
          | inl z ↦ inl (z.0, z.1, joined_on t z.0 z.2)
          | inr z ↦ inr (apart_stay c d o AtomStands t.left t.right z)
        ];
        ordered = s.ordered;
      }

module _ (c : List Entry) (live : List Bool) (n : ℕ) (ties : List Tie) (r : AreOrdered n ties) (i : ℕ) (edges : List Edge) (s : JoinedSoFar c live ties i edges) where
  sound_more : (e : Edge) → IsJoinedBefore c ties i e → IsJoinedBefore c ties (i + 1) e
  sound_more e b = let lt = b.2 in (b.0, b.1, omega arith, b.3, b.4)

  module _ (t : Tie) (ht : slice_get ties i ≡ Some t) where
    -- this tie or one before it
    at_or_before : (k : ℕ) (u : Tie) → k < i + 1 → slice_get ties k ≡ Some u → ((k < i) → IsDone c edges u) → IsDone c edges t → IsDone c edges u
    at_or_before k u lt hu before now = elim (cases_lt k i) [
      | inl less ↦ before less
      | inr past ↦ subst (IsDone c edges) (same_value ties i k t u (omega arith) ht hu) now
    ]

    pub joined_dead : (IsMarked live t.to → ⊥) → JoinedSoFar c live ties (i + 1) edges
    joined_dead off =
        record {
          sound = λ j e h. sound_more e (s.sound j e h);
          covers = λ k u lt hu m. elim (cases_lt k i) [
            | inl less ↦ s.covers k u less hu m
            | inr past ↦ absurd (off (subst (λ v. IsMarked live v.to) (sym (same_value ties i k t u (omega arith) ht hu)) m))
          ];
          ordered = s.ordered;
        }

    joined_apart : AreApart AtomStands c t.left t.right → JoinedSoFar c live ties (i + 1) edges
    joined_apart apart =
        record {
          sound = λ j e h. sound_more e (s.sound j e h);
          covers = λ k u lt hu m. at_or_before k u lt hu (λ less. s.covers k u less hu m) (inr apart);
          ordered = s.ordered;
        }

    module _ (e : Edge) (j : IsJoined c t e) where
      push_ordered : (a b : ℕ) (f g : Edge) → slice_get (edges ++ e ∷ []) a ≡ Some f → slice_get (edges ++ e ∷ []) b ≡ Some g → f.to ≡ g.from → a < b
      push_ordered a b f g hf hg back = elim (get_pushed edges e a f hf) [
        | inl p ↦ elim (get_pushed edges e b g hg) [
          | inl q ↦ s.ordered a b f g p.1 q.1 back
          | inr q ↦ (let lt = p.0 in let last = q.0 in omega arith)
        ]
        | inr p ↦
            let on = r.onward i t ht in
            let less = on.0 in
            let to = j.to in
            let this : e.to ≡ g.from = ap (λ v. v.to) p.1 ∙ back in
            elim (get_pushed edges e b g hg) [
              | inl q ↦
                  let old = s.sound b g q.1 in
                  let before = r.ordered i old.0 t old.1 ht old.3 (sym to ∙ this ∙ old.4.from) in
                  let low = old.2 in
                  absurd (omega arith)
              | inr q ↦
                  let own = ap (λ v. v.from) q.1 in
                  let from = j.from in
                  absurd (omega arith)
            ]
      ]

      joined_push : JoinedSoFar c live ties (i + 1) (edges ++ e ∷ [])
      joined_push =
          record {
            sound = λ a f h. elim (get_pushed edges e a f h) [
              | inl p ↦ sound_more f (s.sound a f p.1)
              | inr p ↦ subst (IsJoinedBefore c ties (i + 1)) p.1 (i, t, omega arith, ht, j)
            ];
            covers = λ k u lt hu m. elim (cases_lt k i) [
              | inl less ↦ elim (s.covers k u less hu m) [ inl z ↦ inl (some_more (IsJoined c u) edges e z) | inr z ↦ inr z ]
              | inr past ↦ subst (IsDone c (edges ++ e ∷ [])) (same_value ties i k t u (omega arith) ht hu) (inl (e, in_last edges e, j))
            ];
            ordered = push_ordered;
          }

    pub joined_put : (more : List Edge) → IsJoinedTo c t edges more → JoinedSoFar c live ties (i + 1) more
    joined_put more h = elim h [
      | inl q ↦ subst (JoinedSoFar c live ties (i + 1)) (sym q.0) (joined_apart q.1)
      | inr q ↦ subst (JoinedSoFar c live ties (i + 1)) (sym q.1) (joined_push q.0 q.2)
    ]

  pub joined_end : length ties ≤ i → AreJoined c live ties edges
  joined_end all =
      record {
        sound = λ j e h. (let b = s.sound j e h in (b.1, (b.0, b.3), b.4));
        covers = λ t h. (let within = slice_get_within ties h.0 t h.1 in s.covers h.0 t (omega arith) h.1);
        ordered = s.ordered;
      }
