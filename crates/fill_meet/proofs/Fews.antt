-- The steps of a sweep that tries an edge of the first graph with those out of each node of the second.
use Rattle.std.proofs.Common.{◌≡◌, ℕ, ◌+◌, ◌<◌, ◌≤◌, ◌⊎◌, inl, inr, List, length, Some, slice_get, refl, sym, ap, ◌∙◌, subst, arith}
use Rattle.std.proofs.lemmas.Bool.{cases_lt}
use Rattle.std.proofs.lemmas.Option.{slice_get_within}
use Rattle.fill_arena.specs.Contents.{EachIn}
use Rattle.fill_arena.specs.Stands.{AtomStands}
use Rattle.fill_arena.specs.declared.entry.Entry.{Entry}
use Rattle.fill_arena.specs.declared.entry.Edge.{Edge}
use Rattle.fill_trim.specs.Trim.{AreEdges}
use Rattle.fill_meet.specs.Bits.{IsBit}
use Rattle.fill_meet.specs.Groups.{AreKeys, IsFirstFrom}
use Rattle.fill_meet.specs.Meet.{AreApart}
use Rattle.fill_meet.specs.Ties.{IsBelow, IsBelowTo, IsPutTie, SweepState, SweptSoFar}
use Rattle.fill_meet.specs.declared.ties.Graphs.{Graphs}
use Rattle.fill_meet.specs.declared.ties.Sweep.{Sweep}
use Rattle.fill_meet.proofs.Lists.{get_there_too, same_value}
use Rattle.fill_meet.proofs.Sweeps.{columns, room_wide, swept_move, swept_next, swept_push, tried_room}

-- each first node is one of the graph's
pub froms_within : (w : ℕ) (ys : List Edge) (keys : List ℕ) → AreEdges w ys → AreKeys (λ e. e.from) ys keys → EachIn (λ n. n < w) keys
froms_within w ys keys edges are k n at =
    let there = get_there_too keys ys k n (sym are.long) at in
    let same = same_value keys k k n there.0.from refl at (are.each k there.0 there.1) in
    let on = edges.onward k there.0 there.1 in
    let less = on.0 in
    let past = on.1 in
    omega arith

module _ (c : List Entry) (g : Graphs) (first : AreEdges g.height g.xs.now) (second : AreEdges g.width g.ys.now) (k : ℕ) where
  -- from what was gone through to what has more names, but no other edges
  moved : (D E : ℕ → Type 0) (s : Sweep) → ((b : ℕ) (y : Edge) → slice_get g.ys.now b ≡ Some y → E b → D b) → SweepState c g k D s → SweepState c g k E s
  moved D E s back state =
      record {
        room = state.room;
        swept = swept_move g.xs.now g.ys.now g.height g.width first second c k D s.reached s.ties state.swept E (λ b x y hx hy marked e. inl (back b y hy e));
      }

  -- before the first node
  pub few_start : (s : Sweep) → SweepState c g k (λ b. ⊥) s → SweepState c g k (IsBelow g.ys.now 0) s
  few_start s state = moved (λ b. ⊥) (IsBelow g.ys.now 0) s (λ b y hy e. (let lt = e.2 in absurd (omega arith))) state

  -- after the last one
  pub few_end : (v : ℕ) (s : Sweep) → g.width ≤ v → SweepState c g k (IsBelow g.ys.now v) s → SweepState c g (k + 1) (λ b. ⊥) s
  few_end v s le state =
      record {
        room = state.room;
        swept = swept_next g.xs.now g.ys.now g.height g.width first second c k (IsBelow g.ys.now v) s.reached s.ties state.swept (λ b x y hx hy marked.
            let lt = (columns g.xs.now g.ys.now g.height g.width first second b y hy).0 in
            inl (y, hy, omega arith));
      }

  -- past nodes to which nothing leads
  pub few_pass : (v w : ℕ) (x : Edge) (s : Sweep) → slice_get g.xs.now k ≡ Some x → ((n : ℕ) → v ≤ n → n < w → IsBit s.reached x.from n → ⊥) → SweepState c g k (IsBelow g.ys.now v) s → SweepState c g k (IsBelow g.ys.now w) s
  few_pass v w x s hx none state =
      record {
        room = state.room;
        swept = swept_move g.xs.now g.ys.now g.height g.width first second c k (IsBelow g.ys.now v) s.reached s.ties state.swept (IsBelow g.ys.now w) (λ b u y hu hy marked e. elim (cases_lt y.from v) [
          | inl less ↦ inl (y, hy, less)
          | inr past ↦
              let same : e.0 ≡ y = same_value g.ys.now b b e.0 y refl e.1 hy in
              let lt : y.from < w = subst (λ z. z.from < w) same e.2 in
              let eu : u ≡ x = same_value g.xs.now k k u x refl hu hx in
              absurd (none y.from past lt (subst (λ z. IsBit s.reached z.from y.from) eu marked))
        ]);
      }

  module _ (v : ℕ) where
    -- before the first edge out of the node
    pub few_node : (s : Sweep) → SweepState c g k (IsBelow g.ys.now v) s → SweepState c g k (IsBelowTo g.ys.now v 0) s
    few_node s state = moved (IsBelow g.ys.now v) (IsBelowTo g.ys.now v 0) s (λ b y hy e. elim e [ inl below ↦ below | inr at ↦ (let lt = at.3 in absurd (omega arith)) ]) state

    -- after the last one
    pub few_next : (l : ℕ) (s : Sweep) → length g.ys.now ≤ l → SweepState c g k (IsBelowTo g.ys.now v l) s → SweepState c g k (IsBelow g.ys.now (v + 1)) s
    few_next l s le state = moved (IsBelowTo g.ys.now v l) (IsBelow g.ys.now (v + 1)) s (λ b y hy e.
        let within = slice_get_within g.ys.now b y hy in
        let same : e.0 ≡ y = same_value g.ys.now b b e.0 y refl e.1 hy in
        let lt : y.from < v + 1 = subst (λ z. z.from < v + 1) same e.2 in
        elim (cases_lt y.from v) [
          | inl less ↦ inl (y, hy, less)
          | inr past ↦ inr (y, hy, omega arith, omega arith)
        ]) state

    -- on to the next edge out of the node
    pub few_on : (keys : List ℕ) (l m : ℕ) (s : Sweep) → AreKeys (λ e. e.from) g.ys.now keys → IsFirstFrom keys v l m → SweepState c g k (IsBelowTo g.ys.now v l) s → SweepState c g k (IsBelowTo g.ys.now v m) s
    few_on keys l m s are next state = moved (IsBelowTo g.ys.now v l) (IsBelowTo g.ys.now v m) s (λ b y hy e. elim e [
      | inl below ↦ inl below
      | inr at ↦ elim (cases_lt b l) [
        | inl less ↦ inr (at.0, at.1, at.2, less)
        | inr past ↦
            let least = next.least b past (are.each b at.0 at.1 ∙ ap Some at.2) in
            let lt = at.3 in
            absurd (omega arith)
      ]
    ]) state

    module _ (l : ℕ) (x y : Edge) (hx : slice_get g.xs.now k ≡ Some x) (hy : slice_get g.ys.now l ≡ Some y) (s : Sweep) (state : SweepState c g k (IsBelowTo g.ys.now v l) s) where
      back : (m : ℕ) → IsBelowTo g.ys.now v (l + 1) m → IsBelowTo g.ys.now v l m ⊎ (m ≡ l)
      back m e = elim e [
        | inl below ↦ inl (inl below)
        | inr at ↦ elim (cases_lt m l) [
          | inl less ↦ inl (inr (at.0, at.1, at.2, less))
          | inr past ↦ (let lt = at.3 in inr (omega arith))
        ]
      ]

      few_apart : AreApart AtomStands c x.atoms y.atoms → SweepState c g k (IsBelowTo g.ys.now v (l + 1)) s
      few_apart apart =
          record {
            room = state.room;
            swept = swept_move g.xs.now g.ys.now g.height g.width first second c k (IsBelowTo g.ys.now v l) s.reached s.ties state.swept (IsBelowTo g.ys.now v (l + 1)) (λ m u w hu hw marked e. elim (back m e) [
              | inl old ↦ inl old
              | inr this ↦
                  let eu : u ≡ x = same_value g.xs.now k k u x refl hu hx in
                  let ew : w ≡ y = same_value g.ys.now m l w y this hw hy in
                  inr (subst (λ z. AreApart AtomStands c z.atoms w.atoms) (sym eu) (subst (λ z. AreApart AtomStands c x.atoms z.atoms) (sym ew) apart))
            ]);
          }

      few_put : (q : Sweep) → IsPutTie g.width x y s q → SweepState c g k (IsBelowTo g.ys.now v (l + 1)) q
      few_put q e =
          record {
            room = tried_room g.height g.width x y s q (inr e) state.room;
            swept = subst (λ t. SweptSoFar c g.xs.now g.ys.now g.width k (IsBelowTo g.ys.now v (l + 1)) q.reached t) (sym e.3)
                (swept_push g.xs.now g.ys.now g.height g.width first second c k (IsBelowTo g.ys.now v l) s.reached s.ties state.swept l x y hx hy e.0 e.1 q.reached e.2 (room_wide g.height g.width s.reached state.room) (IsBelowTo g.ys.now v (l + 1)) back);
          }

      pub few_step : (q : Sweep) → IsPutTie g.width x y s q ⊎ (AreApart AtomStands c x.atoms y.atoms × (q ≡ s)) → SweepState c g k (IsBelowTo g.ys.now v (l + 1)) q
      few_step q step = elim step [
        | inl put ↦ few_put q put
        | inr apart ↦ subst (SweepState c g k (IsBelowTo g.ys.now v (l + 1))) (sym apart.1) (few_apart apart.0)
      ]
