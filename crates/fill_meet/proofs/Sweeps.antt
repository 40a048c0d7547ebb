-- The steps of the sweep over the edges of the first graph.
use Rattle.std.proofs.Common.{◌≡◌, ℕ, ◌+◌, ◌*◌, ◌/◌, ◌<◌, ◌≤◌, ◌⊎◌, inl, inr, List, [], ◌∷◌, ◌++◌, length, Some, slice_get, refl, sym, ap, ◌∙◌, subst, arith}
use Rattle.std.proofs.lemmas.Bool.{cases_lt}
use Rattle.std.proofs.lemmas.Option.{slice_get_within}
use Rattle.fill_arena.specs.Contents.{EachIn, IsAtomSet}
use Rattle.fill_arena.specs.Stands.{AtomStands}
use Rattle.fill_arena.specs.declared.entry.Entry.{Entry}
use Rattle.fill_arena.specs.declared.entry.Edge.{Edge}
use Rattle.fill_arena.proofs.Lists.{get_pushed}
use Rattle.fill_trim.specs.Trim.{AreEdges}
use Rattle.fill_meet.specs.Bits.{HasRoom, IsBit, IsPutBit}
use Rattle.fill_meet.specs.Groups.{IsFirstFrom}
use Rattle.fill_meet.specs.Meet.{AreApart}
use Rattle.fill_meet.specs.Rows.{IsRow}
use Rattle.fill_meet.specs.Ties.{AreOrdered, AreTies, IsFound, IsInRow, IsInRowTo, IsSettled, IsTie, IsTied, IsTried, NameSets, SweepState, SweptSoFar}
use Rattle.fill_meet.specs.declared.bits.Bits.{Bits}
use Rattle.fill_meet.specs.declared.runs.Run.{Run}
use Rattle.fill_meet.specs.declared.ties.Graphs.{Graphs}
use Rattle.fill_meet.specs.declared.ties.Sweep.{Sweep}
use Rattle.fill_meet.specs.declared.ties.Tie.{Tie}
use Rattle.fill_meet.proofs.Lists.{same_value, get_empty, in_last, some_more}
use Rattle.fill_meet.proofs.Products.{same_row, within_product, onward_product}
use Rattle.fill_meet.proofs.Words.{room_stays}

module _ (xs ys : List Edge) (h w : ℕ) (first : AreEdges h xs) (second : AreEdges w ys) where
  pub columns : (b : ℕ) (y : Edge) → slice_get ys b ≡ Some y → (y.from < w) × (y.to < w)
  columns b y at = let o = second.onward b y at in let less = o.0 in let past = o.1 in (omega arith, omega arith)

  pub rows_within : (a : ℕ) (x : Edge) → slice_get xs a ≡ Some x → (x.from < h) × (x.to < h)
  rows_within a x at = let o = first.onward a x at in let less = o.0 in let past = o.1 in (omega arith, omega arith)

  -- the tie of two edges leads on within the nodes
  pub pair_onward : (a b : ℕ) (x y : Edge) → slice_get xs a ≡ Some x → slice_get ys b ≡ Some y → (x.from * w + y.from < x.to * w + y.to) × (x.to * w + y.to < h * w)
  pair_onward a b x y hx hy =
      let o = first.onward a x hx in
      let u = second.onward b y hy in
      (onward_product w x.from y.from x.to y.to o.0 u.0, within_product h w x.to y.to o.1 u.1)

  pub ends_within : (a b : ℕ) (x y : Edge) → slice_get xs a ≡ Some x → slice_get ys b ≡ Some y → (x.from * w + y.from < h * w) × (x.to * w + y.to < h * w)
  ends_within a b x y hx hy =
      let u = rows_within a x hx in
      let v = columns b y hy in
      (within_product h w x.from y.from u.0 v.0, within_product h w x.to y.to u.1 v.1)

  module _ (c : List Entry) where
    pub swept_start : (b : Bits) (ties : List Tie) → ties ≡ [] → IsBit b 0 0 → SweptSoFar c xs ys w 0 (λ l. ⊥) b ties
    swept_start b ties none one =
        record {
          first = one;
          found = λ j t at. absurd (get_empty j t ties none at);
          covers = λ a l x y hx hy before. elim before [ inl lt ↦ absurd (omega arith) | inr e ↦ absurd e.1 ];
          ordered = λ i j t u at. absurd (get_empty i t ties none at);
        }

    module _ (k : ℕ) (D : ℕ → Type 0) (b : Bits) (ties : List Tie) (s : SweptSoFar c xs ys w k D b ties) where
      -- what is gone through by now was gone through before, or has nothing in common with the edge, or nothing leads to it
      pub swept_move : (E : ℕ → Type 0)
          → ((l : ℕ) (x y : Edge) → slice_get xs k ≡ Some x → slice_get ys l ≡ Some y → IsBit b x.from y.from → E l → D l ⊎ AreApart AtomStands c x.atoms y.atoms) → SweptSoFar c xs ys w k E b ties
      swept_move E back =
          record {
            first = s.first;
            found = s.found;
            covers = λ a l x y hx hy before marked. elim before [
              | inl lt ↦ s.covers a l x y hx hy (inl lt) marked
              | inr e ↦ elim (back l x y (subst (λ n. slice_get xs n ≡ Some x) e.0 hx) hy marked e.1) [
                | inl d ↦ s.covers a l x y hx hy (inr (e.0, d)) marked
                | inr apart ↦ inr apart
              ]
            ];
            ordered = s.ordered;
          }

      -- on to the next edge of the first graph
      pub swept_next : ((l : ℕ) (x y : Edge) → slice_get xs k ≡ Some x → slice_get ys l ≡ Some y → IsBit b x.from y.from → D l ⊎ AreApart AtomStands c x.atoms y.atoms) → SweptSoFar c xs ys w (k + 1) (λ l. ⊥) b ties
      swept_next all =
          record {
            first = s.first;
            found = λ j t at. (let f = s.found j t at in let low = f.low in record { left = f.left; right = f.right; x = f.x; y = f.y; low = omega arith; first = f.first; second = f.second; tie = f.tie; to = f.to });
            covers = λ a l x y hx hy before marked. elim before [
              | inl lt ↦ elim (cases_lt a k) [
                | inl less ↦ s.covers a l x y hx hy (inl less) marked
                | inr past ↦
                    let here : a ≡ k = omega arith in
                    elim (all l x y (subst (λ n. slice_get xs n ≡ Some x) here hx) hy marked) [
                      | inl d ↦ s.covers a l x y hx hy (inr (here, d)) marked
                      | inr apart ↦ inr apart
                    ]
              ]
              | inr e ↦ absurd e.1
            ];
            ordered = s.ordered;
          }

      -- the tie of one more pair
      module _ (l : ℕ) (x y : Edge) (hx : slice_get xs k ≡ Some x) (hy : slice_get ys l ≡ Some y) (t : Tie) (tie : IsTie w x y t) (n : Bits) (put : IsPutBit x.to y.to b n) (wide : (v : ℕ) → v < w → v / 64 < b.per_row) (E : ℕ → Type 0) (back : (m : ℕ) → E m → D m ⊎ (m ≡ l)) where
        old_found : (u : Tie) → IsFound xs ys w k b u → IsFound xs ys w k n u
        old_found u f = record { left = f.left; right = f.right; x = f.x; y = f.y; low = f.low; first = f.first; second = f.second; tie = f.tie; to = put.stays f.x.to f.y.to f.to }

        new_found : IsFound xs ys w k n t
        new_found = record { left = k; right = l; x = x; y = y; low = omega arith; first = hx; second = hy; tie = tie; to = put.here }

        -- an edge that comes from where the new tie leads stands later
        later : (a : ℕ) (u : Edge) → slice_get xs a ≡ Some u → x.to ≡ u.from → k < a
        later a u hu e = first.ordered k a x u hx hu e

        settle : (a m : ℕ) (u v : Edge) → a ≡ k → m ≡ l → slice_get xs a ≡ Some u → slice_get ys m ≡ Some v → IsSettled c w (ties ++ t ∷ []) u v
        settle a m u v ea em hu hv =
            let eu : x ≡ u = same_value xs k a x u (sym ea) hx hu in
            let ev : y ≡ v = same_value ys l m y v (sym em) hy hv in
            inl (t, in_last ties t, subst (λ z. IsTie w z v t) eu (subst (λ z. IsTie w x z t) ev tie))

        -- what was gone through, where something led before
        covered : (a m : ℕ) (u v : Edge) → slice_get xs a ≡ Some u → slice_get ys m ≡ Some v → (a < k) ⊎ ((a ≡ k) × D m) → IsBit n u.from v.from → IsSettled c w (ties ++ t ∷ []) u v
        covered a m u v hu hv before marked = elim (put.was u.from v.from (wide v.from (columns m v hv).0) marked) [
          | inl both ↦
              let lt = later a u hu (sym both.0) in
              absurd (elim before [ inl less ↦ omega arith | inr e ↦ (let same = e.0 in omega arith) ])
          | inr old ↦ elim (s.covers a m u v hu hv before old) [ inl z ↦ inl (some_more (IsTie w u v) ties t z) | inr apart ↦ inr apart ]
        ]

        pub swept_push : SweptSoFar c xs ys w k E n (ties ++ t ∷ [])
        swept_push =
            record {
              first = put.stays 0 0 s.first;
              found = λ j u at. elim (get_pushed ties t j u at) [
                | inl q ↦ old_found u (s.found j u q.1)
                | inr q ↦ subst (IsFound xs ys w k n) q.1 new_found
              ];
              covers = λ a m u v hu hv before marked. elim before [
                | inl lt ↦ covered a m u v hu hv (inl lt) marked
                | inr e ↦ elim (back m e.1) [
                  | inl d ↦ covered a m u v hu hv (inr (e.0, d)) marked
                  | inr this ↦ settle a m u v e.0 this hu hv
                ]
              ];
              ordered = λ i j u v hu hv e. elim (get_pushed ties t j v hv) [
                | inl q ↦ elim (get_pushed ties t i u hu) [
                  | inl p ↦ s.ordered i j u v p.1 q.1 e
                  | inr p ↦
                      let f = s.found j v q.1 in
                      let low = f.low in
                      let number : x.to * w + y.to ≡ f.x.from * w + f.y.from = sym tie.to ∙ ap (λ z. z.to) p.1 ∙ e ∙ f.tie.from in
                      let both = same_row w x.to y.to f.x.from f.y.from (columns l y hy).1 (columns f.right f.y f.second).0 number in
                      let lt = later f.left f.x f.first both.0 in
                      absurd (omega arith)
                ]
                | inr q ↦ elim (get_pushed ties t i u hu) [
                  | inl p ↦ (let lt = p.0 in let last = q.0 in omega arith)
                  | inr p ↦
                      let on = (pair_onward k l x y hx hy).0 in
                      let from = tie.from in
                      let to = tie.to in
                      let round : t.to ≡ t.from = ap (λ z. z.to) p.1 ∙ e ∙ ap (λ z. z.from) (sym q.1) in
                      absurd (omega arith)
                ]
              ];
            }

    -- after the last edge of the first graph
    module _ (k : ℕ) (b : Bits) (ties : List Tie) (s : SweptSoFar c xs ys w k (λ l. ⊥) b ties) where
      reached : (u v : ℕ) → v < w → IsTied ties (u * w + v) → IsBit b u v
      reached u v lt tied = elim tied [
        | inl is ↦
            let some : 0 < w = omega arith in
            let zero : 0 * w + 0 ≡ 0 = omega arith in
            let both = same_row w u v 0 0 lt some (is ∙ sym zero) in
            subst (λ n. IsBit b n v) (sym both.0) (subst (λ n. IsBit b 0 n) (sym both.1) s.first)
        | inr g ↦
            let f = s.found g.1.0 g.0 g.1.1 in
            let both = same_row w f.x.to f.y.to u v (columns f.right f.y f.second).1 lt (sym f.tie.to ∙ g.2) in
            subst (λ n. IsBit b n v) both.0 (subst (λ n. IsBit b f.x.to n) both.1 f.to)
      ]

      pub swept_ties : length xs ≤ k → AreTies c w xs ys ties
      swept_ties all =
          record {
            sound = λ j t at. (let f = s.found j t at in (f.x, (f.left, f.first), (f.y, (f.right, f.second), f.tie)));
            covers = λ x y hx hy tied.
                (let within = slice_get_within xs hx.0 x hx.1 in
                s.covers hx.0 hy.0 x y hx.1 hy.1 (inl (omega arith)) (reached x.from y.from (columns hy.0 y hy.1).0 tied));
          }

      pub swept_ordered : AreOrdered (h * w) ties
      swept_ordered =
          record {
            onward = λ j t at.
                (let f = s.found j t at in
                let on = pair_onward f.left f.right f.x f.y f.first f.second in
                let less = on.0 in
                let past = on.1 in
                let from = f.tie.from in
                let to = f.tie.to in
                (omega arith, omega arith));
            ordered = s.ordered;
          }

      pub swept_sets : EachIn (λ e. IsAtomSet c e.atoms) xs → EachIn (λ e. IsAtomSet c e.atoms) ys → NameSets c ties
      swept_sets lefts rights j t at =
          let f = s.found j t at in
          (subst (λ n. IsAtomSet c n) (sym f.tie.left) (lefts f.left f.x f.first), subst (λ n. IsAtomSet c n) (sym f.tie.right) (rights f.right f.y f.second))

-- the room of a sweep
pub tried_room : (h w : ℕ) (x y : Edge) (p q : Sweep) → IsTried w x y p q → HasRoom h w p.reached → HasRoom h w q.reached
tried_room h w x y p q end_of_tie room = elim end_of_tie [
  | inl e ↦ subst (HasRoom h w) (sym e.1) room
  | inr e ↦ room_stays h w x.to y.to p.reached q.reached e.2 room
]

-- a column within the room
pub room_wide : (h w : ℕ) (b : Bits) → HasRoom h w b → (v : ℕ) → v < w → v / 64 < b.per_row
room_wide h w b room v lt = let wide = room.wide in omega arith

module _ (c : List Entry) (g : Graphs) (first : AreEdges g.height g.xs.now) (second : AreEdges g.width g.ys.now) (k : ℕ) (labels numbers : List ℕ) (start p n : ℕ) where
  -- on to the next edge of the label
  pub set_on : (l m : ℕ) (s : Sweep) → IsFirstFrom labels n l m → SweepState c g k (IsInRowTo labels numbers start p n l) s → SweepState c g k (IsInRowTo labels numbers start p n m) s
  set_on l m s next state =
      record {
        room = state.room;
        swept = swept_move g.xs.now g.ys.now g.height g.width first second c k (IsInRowTo labels numbers start p n l) s.reached s.ties state.swept (IsInRowTo labels numbers start p n m) (λ b x y hx hy marked d. inl (elim d [
          | inl row ↦ inl row
          | inr e ↦ elim (cases_lt b l) [
            | inl less ↦ inr (e.0, less)
            | inr past ↦ (let least = next.least b past e.0 in let less = e.1 in absurd (omega arith))
          ]
        ]));
      }

  -- past the last edge
  pub set_far : (l : ℕ) (s : Sweep) → length g.ys.now ≤ l → SweepState c g k (IsInRowTo labels numbers start p n l) s → SweepState c g k (IsInRowTo labels numbers start p n (length g.ys.now)) s
  set_far l s le state =
      record {
        room = state.room;
        swept = swept_move g.xs.now g.ys.now g.height g.width first second c k (IsInRowTo labels numbers start p n l) s.reached s.ties state.swept (IsInRowTo labels numbers start p n (length g.ys.now)) (λ b x y hx hy marked d. inl (elim d [
          | inl row ↦ inl row
          | inr e ↦ (let less = e.1 in inr (e.0, omega arith))
        ]));
      }

  -- one more pair of edges
  pub set_put : (l : ℕ) (x y : Edge) (s q : Sweep) → slice_get g.xs.now k ≡ Some x → slice_get g.ys.now l ≡ Some y → slice_get labels l ≡ Some n → IsTried g.width x y s q
      → SweepState c g k (IsInRowTo labels numbers start p n l) s → SweepState c g k (IsInRowTo labels numbers start p n (l + 1)) q
  set_put l x y s q hx hy label end_of_tie state =
      let D = IsInRowTo labels numbers start p n l in
      let E = IsInRowTo labels numbers start p n (l + 1) in
      let back : (m : ℕ) → E m → D m ⊎ (m ≡ l) = λ m d. elim d [
        | inl row ↦ inl (inl row)
        | inr e ↦ elim (cases_lt m l) [
          | inl less ↦ inl (inr (e.0, less))
          | inr past ↦ (let less = e.1 in inr (omega arith))
        ]
      ] in
      record {
        room = tried_room g.height g.width x y s q end_of_tie state.room;
        swept = elim end_of_tie [
          | inl e ↦
              let moved = swept_move g.xs.now g.ys.now g.height g.width first second c k D s.reached s.ties state.swept E (λ m u v hu hv marked d. elim (back m d) [
                | inl old ↦ inl old
                | inr here ↦
                    let eu : u ≡ x = same_value g.xs.now k k u x refl hu hx in
                    let ev : v ≡ y = same_value g.ys.now m l v y here hv hy in
                    absurd (e.0 (subst (λ z. IsBit s.reached z.from y.from) eu (subst (λ z. IsBit s.reached u.from z.from) ev marked)))
              ]) in
              subst (λ b. SweptSoFar c g.xs.now g.ys.now g.width k E b q.ties) (sym e.1) (subst (λ t. SweptSoFar c g.xs.now g.ys.now g.width k E s.reached t) (sym e.2) moved)
          | inr e ↦ subst (λ t. SweptSoFar c g.xs.now g.ys.now g.width k E q.reached t) (sym e.3)
              (swept_push g.xs.now g.ys.now g.height g.width first second c k D s.reached s.ties state.swept l x y hx hy e.0 e.1 q.reached e.2 (room_wide g.height g.width s.reached state.room) E back)
        ];
      }

module _ (c : List Entry) (g : Graphs) (first : AreEdges g.height g.xs.now) (second : AreEdges g.width g.ys.now) (k : ℕ) (labels numbers : List ℕ) (start : ℕ) where
  -- before the first number of the run
  pub row_start : (D : ℕ → Type 0) (s : Sweep) → SweepState c g k D s → SweepState c g k (IsInRow labels numbers start start) s
  row_start D s state =
      record {
        room = state.room;
        swept = swept_move g.xs.now g.ys.now g.height g.width first second c k D s.reached s.ties state.swept (IsInRow labels numbers start start) (λ b x y hx hy marked d. (let le = d.2 in let lt = d.3 in absurd (omega arith)));
      }

  -- before the first edge of the number at a place
  pub row_set : (p n : ℕ) (s : Sweep) → SweepState c g k (IsInRow labels numbers start p) s → SweepState c g k (IsInRowTo labels numbers start p n 0) s
  row_set p n s state =
      record {
        room = state.room;
        swept = swept_move g.xs.now g.ys.now g.height g.width first second c k (IsInRow labels numbers start p) s.reached s.ties state.swept (IsInRowTo labels numbers start p n 0) (λ b x y hx hy marked d. elim d [
          | inl row ↦ inl row
          | inr e ↦ (let lt = e.1 in absurd (omega arith))
        ]);
      }

  -- after the last edge of the number at a place
  pub row_next : (p n : ℕ) (s : Sweep) → slice_get numbers p ≡ Some n → SweepState c g k (IsInRowTo labels numbers start p n (length g.ys.now)) s → SweepState c g k (IsInRow labels numbers start (p + 1)) s
  row_next p n s at state =
      record {
        room = state.room;
        swept = swept_move g.xs.now g.ys.now g.height g.width first second c k (IsInRowTo labels numbers start p n (length g.ys.now)) s.reached s.ties state.swept (IsInRow labels numbers start (p + 1)) (λ b x y hx hy marked d. inl (elim (cases_lt d.0 p) [
          | inl less ↦ inl (d.0, d.1, d.2, less, d.4, d.5)
          | inr past ↦
              let lt = d.3 in
              let here : d.0 ≡ p = omega arith in
              let same : d.1 ≡ n = same_value numbers d.0 p d.1 n here d.4 at in
              inr (subst (λ m. slice_get labels b ≡ Some m) same d.5, slice_get_within g.ys.now b y hy)
        ]));
      }

  -- after the last number of the row of the edge's set
  pub row_end : (sets : List ℕ) (x : Edge) (run : Run) (s : Sweep) → slice_get g.xs.now k ≡ Some x → run.start ≡ start → ((b : ℕ) (y : Edge) → slice_get g.ys.now b ≡ Some y → (n : ℕ) × (slice_get labels b ≡ Some n) × (slice_get sets n ≡ Some y.atoms))
      → IsRow c sets numbers x.atoms run → SweepState c g k (IsInRow labels numbers start run.end) s → SweepState c g (k + 1) (λ b. ⊥) s
  row_end sets x run s hx begin known row state =
      record {
        room = state.room;
        swept = swept_next g.xs.now g.ys.now g.height g.width first second c k (IsInRow labels numbers start run.end) s.reached s.ties state.swept (λ b u v hu hv marked.
            let label = known b v hv in
            let same : x ≡ u = same_value g.xs.now k k x u refl hx hu in
            elim (row.each label.0 v.atoms label.2) [
              | inl in_run ↦ (let past = in_run.past in inl (in_run.place, label.0, omega arith, in_run.before, in_run.here, label.1))
              | inr apart ↦ inr (subst (λ z. AreApart AtomStands c z.atoms v.atoms) same apart)
            ]);
      }

-- an edge whose first node nothing leads to
pub edge_skip : (c : List Entry) (g : Graphs) (first : AreEdges g.height g.xs.now) (second : AreEdges g.width g.ys.now) (k : ℕ) (x : Edge) (D : ℕ → Type 0) (s : Sweep) → slice_get g.xs.now k ≡ Some x
    → ((v : ℕ) → v / 64 < s.reached.per_row → IsBit s.reached x.from v → ⊥) → SweepState c g k D s → SweepState c g (k + 1) (λ b. ⊥) s
edge_skip c g first second k x D s hx none state =
    record {
      room = state.room;
      swept = swept_next g.xs.now g.ys.now g.height g.width first second c k D s.reached s.ties state.swept (λ b u v hu hv marked.
          let same : u ≡ x = same_value g.xs.now k k u x refl hu hx in
          let wide = room_wide g.height g.width s.reached state.room v.from (columns g.xs.now g.ys.now g.height g.width first second b v hv).0 in
          absurd (none v.from wide (subst (λ z. IsBit s.reached z.from v.from) same marked)));
    }
