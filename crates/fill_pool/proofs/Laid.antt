-- The slices that are there stay what they are as items are put behind them, and as what came after them is cut away.
use Rattle.std.proofs.Common.{◌≡◌, ℕ, ◌+◌, ◌-◌, ◌<◌, ◌≤◌, inl, inr, List, [], ◌∷◌, ◌++◌, map, length, take, drop, set, get_or, refl, sym, ap, ◌∙◌, subst, arith}
use Rattle.std.specs.Prelude.{slice_range, All}
use Rattle.std.proofs.lemmas.Bool.{cases_eq}
use Rattle.std.proofs.lemmas.List.{length-map, length-take, length-append, length-set, get_or-take, get_or-set_same, get_or-set_other, take-append-le, take-take, take_all, drop_at, take-map, map-append, map-set, get_or-map, get_or_read, take_more}
use Rattle.std.proofs.lemmas.List.Elements.{All-head, All-tail, All-push, All-take}
use Rattle.std.proofs.lemmas.List.Quantifiers.{all_pairs_push}
use Rattle.std.proofs.lemmas.List.Sums.{fold_push}
use Rattle.std.proofs.lemmas.Slice.{between_is}
use Rattle.fill_pool.specs.declared.pool.Extent.{Extent}
use Rattle.fill_pool.specs.declared.chunk.Chunk.{Chunk}
use Rattle.fill_pool.specs.Chunk.{held}
use Rattle.fill_pool.specs.Pool.{Precedes, reached, all_held, row_of, items_at, slices_of, IsWithin, AreLaid, HasRoom}

reached_push : (es : List Extent) (e : Extent) → reached (es ++ e ∷ []) ≡ e.chunk + 1
reached_push es e = fold_push (λ (n : ℕ) (f : Extent). f.chunk + 1) 0 es e

module _ {X : Type 0} where
  -- up to the end of the extent, its chunk has in yss what it has in xss
  record IsKept (xss yss : List (List X)) (e : Extent) : Type 0 where
    chunk : e.chunk < length yss
    front : take e.to (row_of yss e.chunk) ≡ take e.to (row_of xss e.chunk)

  alike : (f g : Extent → List X) (es : List Extent) → All (λ e. f e ≡ g e) es → map f es ≡ map g es
  alike f g [] h = refl
  alike f g (e ∷ es) h =
      ap (λ l. l ∷ map f es) (All-head (λ e. f e ≡ g e) e es h) ∙ ap (λ l. g e ∷ l) (alike f g es (All-tail (λ e. f e ≡ g e) e es h))

  kept_within : (xss yss : List (List X)) (e : Extent) → IsWithin xss e → IsKept xss yss e → IsWithin yss e
  kept_within xss yss e w k = record {
    chunk = k.chunk;
    order = w.order;
    end = omega (arith, w.end, ap length k.front, length-take e.to (row_of yss e.chunk), length-take e.to (row_of xss e.chunk));
  }

  kept_items : (xss yss : List (List X)) (e : Extent) → IsKept xss yss e → items_at yss e ≡ items_at xss e
  kept_items xss yss e k = between_is (row_of yss e.chunk) e.from e.to ∙ ap (drop e.from) k.front ∙ sym (between_is (row_of xss e.chunk) e.from e.to)

  all_kept : (xss yss : List (List X)) (es : List Extent) → All (IsWithin xss) es → All (IsKept xss yss) es → All (IsWithin yss) es × (slices_of yss es ≡ slices_of xss es)
  all_kept xss yss es within kept = (
    (λ k d lt. kept_within xss yss (get_or es k d) (within k d lt) (kept k d lt)),
    alike (items_at yss) (items_at xss) es (λ k d lt. kept_items xss yss (get_or es k d) (kept k d lt)),
  )

  -- the last of the chunks yss, which are xss or have one more that is empty, gets items, and an extent names them
  added : (xss yss : List (List X)) (es : List Extent) (ws items : List X) (e : Extent) → AreLaid xss es
      → length xss ≤ length yss → ((k : ℕ) → row_of yss k ≡ row_of xss k) → e.chunk + 1 ≡ length yss
      → ws ≡ row_of yss e.chunk ++ items → e.from ≡ length (row_of yss e.chunk) → e.to ≡ e.from + length items
      → let zss = set yss e.chunk ws in AreLaid zss (es ++ e ∷ []) × (slices_of zss (es ++ e ∷ []) ≡ slices_of xss es ++ items ∷ [])
  added xss yss es ws items e laid fewer same last wrote from to =
      let zss = set yss e.chunk ws in let had = row_of yss e.chunk in
      let count : length zss ≡ length yss = length-set yss e.chunk ws in
      let at : row_of zss e.chunk ≡ ws = get_or-set_same yss e.chunk ws [] (omega arith) in
      let full : length ws ≡ e.to = ap length wrote ∙ length-append had items ∙ omega arith in
      let kept : All (IsKept xss zss) es = λ k d lt. let f = get_or es k d in let w = laid.within k d lt in record {
        chunk = omega (arith, w.chunk, fewer, count);
        front = elim (cases_eq f.chunk e.chunk) [
          | inl here ↦
              let old : row_of xss f.chunk ≡ had = ap (row_of xss) here ∙ sym (same e.chunk) in
              let new : row_of zss f.chunk ≡ had ++ items = ap (row_of zss) here ∙ at ∙ wrote in
              let le : f.to ≤ length had = subst (λ l. f.to ≤ length l) old w.end in
              ap (take f.to) new ∙ take-append-le f.to had items le ∙ ap (take f.to) (sym old)
          | inr other ↦ ap (take f.to) (get_or-set_other yss e.chunk f.chunk ws [] other ∙ same f.chunk)
        ];
      } in
      let stay = all_kept xss zss es laid.within kept in
      let here : IsWithin zss e = record { chunk = omega (arith, count, last); order = omega (arith, to); end = subst (λ l. e.to ≤ length l) (sym at) (omega (arith, full)) } in
      let before : (k : ℕ) (d : Extent) → k < length es → Precedes (get_or es k d) e = λ k d lt. let f = get_or es k d in let w = laid.within k d lt in record {
        chunk = omega (arith, w.chunk, fewer, last);
        end = λ is. let le : f.to ≤ length had = subst (λ l. f.to ≤ length l) (ap (row_of xss) is ∙ sym (same e.chunk)) w.end in omega (arith, le, from, to);
      } in
      let new : items_at zss e ≡ items =
      ap (λ l. slice_range l e.from e.to) (at ∙ wrote) ∙ ap (take (e.to - e.from)) (drop_at had items e.from (sym from)) ∙ take_all (e.to - e.from) items (omega (arith, to)) in (
        record {
          within = All-push (IsWithin zss) es e stay.0 here;
          in_order = all_pairs_push Precedes es e laid.in_order before;
          used = count ∙ sym last ∙ sym (reached_push es e);
        },
        map-append (items_at zss) es (e ∷ []) ∙ ap (λ l. l ++ items_at zss e ∷ []) stay.1 ∙ ap (λ l. slices_of xss es ++ l ∷ []) new,
      )

  -- only the first n extents are left, the chunks up to that of the last of them, e, and of that one what lies before its end
  left : (xss : List (List X)) (es : List Extent) (n : ℕ) (ws : List X) (e : Extent) → AreLaid xss es → 0 < n → n ≤ length es → e ≡ get_or es (n - 1) e
      → ws ≡ take e.to (row_of (take (e.chunk + 1) xss) e.chunk)
      → let zss = set (take (e.chunk + 1) xss) e.chunk ws in AreLaid zss (take n es) × (slices_of zss (take n es) ≡ take n (slices_of xss es))
  left xss es n ws e laid some le is cut =
      let yss = take (e.chunk + 1) xss in let zss = set yss e.chunk ws in
      let short = take n es in let long : length short ≡ n = omega (arith, length-take n es) in
      let own : IsWithin xss e = subst (IsWithin xss) (sym is) (laid.within (n - 1) e (omega arith)) in
      let count : length zss ≡ e.chunk + 1 = length-set yss e.chunk ws ∙ omega (arith, length-take (e.chunk + 1) xss, own.chunk) in
      let had = row_of xss e.chunk in
      let row : row_of yss e.chunk ≡ had = get_or-take (e.chunk + 1) xss e.chunk [] (omega arith) in
      let at : row_of zss e.chunk ≡ take e.to had = get_or-set_same yss e.chunk ws [] (omega (arith, length-take (e.chunk + 1) xss, own.chunk)) ∙ cut ∙ ap (take e.to) row in
      let up_to : (k : ℕ) (d : Extent) → k < n → Precedes (get_or short k d) e = λ k d lt.
      let f : get_or short k d ≡ get_or es k d = get_or-take n es k d lt in
      let l : e ≡ get_or es (n - 1) d = get_or_read es (n - 1) e (omega arith) is d in
      subst (λ x. Precedes x e) (sym f) (elim (cases_eq k (n - 1)) [
        | inl last ↦ subst (λ x. Precedes x e) (l ∙ ap (λ i. get_or es i d) (sym last)) (record { chunk = omega arith; end = λ _. omega arith })
        | inr other ↦ subst (Precedes (get_or es k d)) (sym l) (laid.in_order k (n - 1) d (omega (arith, other)) (omega arith))
      ]) in
      let within : All (IsWithin xss) short = All-take (IsWithin xss) n es laid.within in
      let kept : All (IsKept xss zss) short = λ k d lt. let f = get_or short k d in let p = up_to k d (omega arith) in record {
        chunk = omega (arith, p.chunk, count);
        front = elim (cases_eq f.chunk e.chunk) [
          | inl here ↦ ap (take f.to) (ap (row_of zss) here ∙ at) ∙ take-take f.to e.to had (p.end here) ∙ ap (λ c. take f.to (row_of xss c)) (sym here)
          | inr other ↦ ap (take f.to) (get_or-set_other yss e.chunk f.chunk ws [] other ∙ get_or-take (e.chunk + 1) xss f.chunk [] (omega (arith, p.chunk)))
        ];
      } in
      let stay = all_kept xss zss short within kept in
      let shape : short ≡ take (n - 1) es ++ e ∷ [] =
      let one : n ≡ n - 1 + 1 = omega arith in ap (λ m. take m es) one ∙ take_more es (n - 1) e (omega arith) ∙ ap (λ x. take (n - 1) es ++ x ∷ []) (sym is) in (
        record {
          within = stay.0;
          in_order = λ i j d lt in'. let i_is = get_or-take n es i d (omega arith) in let j_is = get_or-take n es j d (omega arith) in
              subst (λ x. Precedes x (get_or short j d)) (sym i_is) (subst (Precedes (get_or es i d)) (sym j_is) (laid.in_order i j d lt (omega arith)));
          used = count ∙ sym (reached_push (take (n - 1) es) e) ∙ ap reached (sym shape);
        },
        stay.1 ∙ sym (take-map (items_at xss) n es),
      )

  -- over chunks: what `append` does
  pub chunk_added : (cs ds : List (Chunk X)) (es : List Extent) (seen lent new : Chunk X) (items : List X) (n : ℕ) (e : Extent) → AreLaid (all_held cs) es
      → HasRoom cs ds n → e.chunk + 1 ≡ length ds → seen ≡ get_or ds e.chunk seen → lent ≡ get_or ds e.chunk lent → held new ≡ held lent ++ items
      → e.from ≡ length (held seen) → e.to ≡ length (held new)
      → let zss = all_held (set ds e.chunk new) in AreLaid zss (es ++ e ∷ []) × (slices_of zss (es ++ e ∷ []) ≡ slices_of (all_held cs) es ++ items ∷ [])
  chunk_added cs ds es seen lent new items n e laid room last is is_lent wrote from to =
      let lt : e.chunk < length ds = omega arith in
      let row : (c : Chunk X) → c ≡ get_or ds e.chunk c → held c ≡ row_of (all_held ds) e.chunk = λ c same. ap held same ∙ sym (get_or-map held ds e.chunk c [] lt) in
      let begins : length (held lent) ≡ e.from = ap length (row lent is_lent ∙ sym (row seen is)) ∙ sym from in
      let long : e.to ≡ e.from + length items = to ∙ ap length wrote ∙ length-append (held lent) items ∙ ap (λ k. k + length items) begins in
      let counts : length (all_held cs) ≤ length (all_held ds) = omega (arith, length-map cs held, length-map ds held, room.fewer) in
      let done = added (all_held cs) (all_held ds) es (held new) items e laid counts room.same (last ∙ sym (length-map ds held))
      (wrote ∙ ap (λ l. l ++ items) (row lent is_lent)) (from ∙ ap length (row seen is)) long in
      let moved : set (all_held ds) e.chunk (held new) ≡ all_held (set ds e.chunk new) = sym (map-set held ds e.chunk new) in
      subst (λ zss. AreLaid zss (es ++ e ∷ []) × (slices_of zss (es ++ e ∷ []) ≡ slices_of (all_held cs) es ++ items ∷ [])) moved done

  -- over chunks: what `cut` does
  pub chunks_left : (cs ds : List (Chunk X)) (es fs : List Extent) (n : ℕ) (e : Extent) (lent new : Chunk X) → AreLaid (all_held cs) es → 0 < n → n ≤ length es
      → fs ≡ take n es → e ≡ get_or fs (n - 1) e → ds ≡ take (e.chunk + 1) cs → lent ≡ get_or ds e.chunk lent → held new ≡ take e.to (held lent)
      → let zss = all_held (set ds e.chunk new) in AreLaid zss fs × (slices_of zss fs ≡ take n (slices_of (all_held cs) es))
  chunks_left cs ds es fs n e lent new laid some le front is rest is_lent cut =
      let is' : e ≡ get_or es (n - 1) e = is ∙ ap (λ l. get_or l (n - 1) e) front ∙ get_or-take n es (n - 1) e (omega arith) in
      let own : IsWithin (all_held cs) e = subst (IsWithin (all_held cs)) (sym is') (laid.within (n - 1) e (omega arith)) in
      let lt : e.chunk < length ds = omega (arith, ap length rest, length-take (e.chunk + 1) cs, length-map cs held, own.chunk) in
      let parts : all_held ds ≡ take (e.chunk + 1) (all_held cs) = ap all_held rest ∙ sym (take-map held (e.chunk + 1) cs) in
      let row : held lent ≡ row_of (take (e.chunk + 1) (all_held cs)) e.chunk = ap held is_lent ∙ sym (get_or-map held ds e.chunk lent [] lt) ∙ ap (λ l. row_of l e.chunk) parts in
      let done = left (all_held cs) es n (held new) e laid some le is' (cut ∙ ap (take e.to) row) in
      let moved : set (take (e.chunk + 1) (all_held cs)) e.chunk (held new) ≡ all_held (set ds e.chunk new) = ap (λ l. set l e.chunk (held new)) (sym parts) ∙ sym (map-set held ds e.chunk new) in
      let Goal : List (List X) → List Extent → Type 0 = λ zss fs. AreLaid zss fs × (slices_of zss fs ≡ take n (slices_of (all_held cs) es)) in
      subst (λ l. Goal (all_held (set ds e.chunk new)) l) (sym front) (subst (λ zss. Goal zss (take n es)) moved done)
