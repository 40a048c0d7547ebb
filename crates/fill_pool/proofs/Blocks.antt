-- The memory of a block, cut and joined: the items, and the room behind them. Assumes `Logic`.
--     start_had, start_made, mark_had, mark_made      a value of one pointer, and one of no bytes
--     next_out, next_in      the first place behind the items is taken out, and an item is put there
--     fewer                  the places of items that are let go are room
--     part_seen              a part of the items that are lent
use mathlib.Core.Path.{◌≡◌, refl, subst}
use Prim.Native.Nat.{ℕ, zero, suc, ◌+◌, ◌-◌, ◌*◌, ◌≤◌}
use native.Mathlib.Omega.{arith}
use native.Mathlib.Nat.{zero-mul, suc-mul}
use mathlib.Core.List.{List, [], ◌∷◌, ◌++◌}
use lib.ListN.{length, take, drop}
use seplogic.Ra.Ura.{Ura}
use base.Fraction.{full_share}
use mir.Syntax.{ty_array}
use mir.Raw.{raw as bare}
use mir.Val.{Val, vstruct, vcons, vnil, of_list}
use base.Logic.{ent, sep, emp, via, snd∗, id⊢, mono_r}
use base.Fml.{Fml, Lft, fsep, fat, froom}
use types.Logic.{Logic, sem}
use types.Kit.{Item, Goal, Seq, Step, step, ‵, some, ◌⊛◌, ◌$◌, ◌∵◌, !, qed, by, move, keep, drop as skip, use1, use2, pick, split, fsplit, fjoin, fpick, fpack, feq_i, feq_l, rewrite, done}
use denote.RattleType.{RattleType, Valss}
use denote.Laws.{Is, shows}
use denote.Memory.{part_at, shared_of}
use denote.RawPtr.{Ptr, RawPtr, ptr_val}
use denote.Shadow.{makes_shadow}
use denote.Slice.{elements_shared}
use denote.Steps.{nothing, peeks}
use denote.Struct.Struct.{Shape, Struct, within}
use denote.Struct.Owning.{shape}
use denote.Struct.Declared as Declared
use denote.Struct.Tuple.{Tuple, tuple_type}
use borrow.Table.OneValue.{part_out}
use Rattle.std.specs.Mem.{type_size}
use Rattle.core.proofs.mem.Param.{El, R, el_x, elτ, lawful, one}
use Rattle.std_alloc.proofs.RawLayout.{as_raw, as_written}
use Rattle.std_alloc.proofs.RcSteps.{Good, word}
use Rattle.fill_pool.specs.Ownership.{laid}
use Rattle.fill_pool.specs.contracts.block.Store as store
use Rattle.fill_pool.specs.contracts.block.Start as start

module _ (E : El) where
  -- the types of the owner of the items, and of the place where a block begins
  abbrev pub Sr : RattleType
  Sr = store.the_row (R E)

  abbrev pub St : RattleType
  St = start.the_row (R E)

  -- the one field of the owner that is there when it runs, of no bytes
  abbrev pub Mark : RattleType
  Mark = Struct (shape (store.the_type (R E)))

  abbrev pub each : ℕ
  each = type_size (R E)

abbrev pointer : Shape
pointer = record { name = []; args = []; types = []; fields = RawPtr ∷ [] }

abbrev pub Pointer : RattleType
Pointer = Struct pointer

abbrev pub mark : Val
mark = vstruct (vcons (vstruct vnil) vnil)

pub mark_made : (E : El) {M : Type 1} {𝓤 : Ura M} (𝓛 : Logic 𝓤) → ent 𝓤 (emp 𝓤) (sem 𝓛 ((Mark E).own_val (tt, tt) (mark ∷ [])))
mark_made E 𝓛 = makes_shadow 𝓛 ((Mark E).own_val (tt, tt) (mark ∷ [])) (λ vss. (tt, ((λ uss. (tt, tt)), tt))) ((vstruct vnil ∷ [], tt), (refl, ((tt, (refl, tt)), tt)))

module _ {M : Type 1} {𝓤 : Ura M} {𝓛 : Logic 𝓤} {K : Type 0} {Γ : List (Item 𝓤)} {G : Goal 𝓤 𝓛.H} where
  -- the machine value of a place where a block begins is its pointer
  pub start_had : K → (p : Ptr) (vs : List Val) → (vs ≡ word p ∷ [] → Seq K 𝓛 Γ G) → Seq K 𝓛 (‵ (Pointer.own_val (p, tt) vs) ∷ Γ) G
  start_had t p vs k = fpick t (λ vss. fsplit t $ feq_l t (λ all. fsplit t $ feq_l t (λ own. skip t $
      k (subst (λ (us : List Val). vs ≡ vstruct (of_list (us ++ [])) ∷ []) own all))))

  pub start_made : K → (p : Ptr) → Step K 𝓛 (‵ (Pointer.own_val (p, tt) (word p ∷ [])) ∷ Γ) G Γ G
  start_made t p = step (λ s.
      nothing t $ feq_i t (List Val) (ptr_val p ∷ []) (ptr_val p ∷ []) refl $ fjoin t $ feq_i t (List Val) (word p ∷ []) (word p ∷ []) refl $ fjoin t $
      fpack t (Valss (RawPtr ∷ [])) (within pointer (p, tt) (word p ∷ [])) (ptr_val p ∷ [], tt) $ s)

  pub mark_had : K → (E : El) (vs : List Val) → (vs ≡ mark ∷ [] → Seq K 𝓛 Γ G) → Seq K 𝓛 (‵ ((Mark E).own_val (tt, tt) vs) ∷ Γ) G
  mark_had t E vs k = fpick t (λ vss. fsplit t $ feq_l t (λ all. fsplit t $ fpick t (λ uss. fsplit t $ feq_l t (λ own. skip t $ skip t $
      k (subst (λ (us : List Val). vs ≡ vstruct (of_list (us ++ [])) ∷ []) own all)))))

  -- what is owned of an item is one machine value, of its type
  pub one_value : K → (E : El) (x : el_x E) (vs : List Val) → ((v : Val) → vs ≡ v ∷ [] → Good (elτ E) v → Seq K 𝓛 (‵ ((R E).own_val x (v ∷ [])) ∷ Γ) G) → Seq K 𝓛 (‵ ((R E).own_val x vs) ∷ Γ) G
  one_value t E x vs k = peeks t (R E) (Is (R E)) (shows 𝓛 (R E)) x vs (λ is.
      let found = one E vs ((lawful E 𝓛).typed x vs is) in
      rewrite t 0 (λ (us : List Val). ‵ ((R E).own_val x us)) found.1 refl $ k found.0 found.1 found.2)

-- a tuple of three values
abbrev pub triple : Val → Val → Val → Val
triple u v w = vstruct (vcons u (vcons v (vcons w vnil)))

pub triple_made : {M : Type 1} {𝓤 : Ura M} (𝓛 : Logic 𝓤) (A B C : RattleType) (x : A.Denot) (y : B.Denot) (z : C.Denot) (u v w : Val)
    → ent 𝓤 (sep 𝓤 (sem 𝓛 (A.own_val x (u ∷ []))) (sep 𝓤 (sem 𝓛 (B.own_val y (v ∷ []))) (sem 𝓛 (C.own_val z (w ∷ []))))) (sem 𝓛 ((Tuple (A ∷ B ∷ C ∷ [])).own_val (x, y, z) (triple u v w ∷ [])))
triple_made 𝓛 A B C x y z u v w =
    qed 𝓛 (‵ (A.own_val x (u ∷ [])) ∷ ‵ (B.own_val y (v ∷ [])) ∷ ‵ (C.own_val z (w ∷ [])) ∷ []) ∵
    nothing ! $ move ! (3 ∷ 0 ∷ []) $ fjoin ! $ move ! (2 ∷ 0 ∷ []) $ fjoin ! $ move ! (1 ∷ 0 ∷ []) $ fjoin ! $
    feq_i ! (List Val) (triple u v w ∷ []) (triple u v w ∷ []) refl $ fjoin ! $
    fpack ! (Valss (A ∷ B ∷ C ∷ [])) (within (Declared.shape (tuple_type (A ∷ B ∷ C ∷ []))) (x, (y, (z, tt))) (triple u v w ∷ [])) (u ∷ [], (v ∷ [], (w ∷ [], tt))) $ done !

module _ (E : El) {M : Type 1} {𝓤 : Ura M} (𝓛 : Logic 𝓤) (b : ℕ) where
  open 𝓛 use {H}

  abbrev s : ℕ
  s = each E

  abbrev Part : el_x E → ℕ → Fml
  Part x o = part_at (R E) full_share x b o

  abbrev Laid : ℕ → List (el_x E) → ℕ → Fml
  Laid = laid (R E) b

  abbrev Bare : ℕ → ℕ → Fml
  Bare n o = froom (bare (ty_array (elτ E) n)) b o

  -- all but the first place behind the items
  abbrev pub Others : ℕ → List (el_x E) → ℕ → Fml
  Others o [] n = Bare n (o + s)
  Others o (x ∷ xs) n = fsep (Part x o) (Others (o + s) xs n)

  one_out : (n o : ℕ) → ent 𝓤 (sem 𝓛 (Bare (suc n) o)) (sep 𝓤 (H.room (elτ E) b o) (sem 𝓛 (Bare n (o + s))))
  one_out n o = qed 𝓛 (‵ (Bare (suc n) o) ∷ []) ∵ as_written ! (ty_array (elτ E) (suc n)) b o $
      use1 𝓛 (‵ (froom (elτ E) b o) ⊛ ‵ (froom (ty_array (elτ E) n) b (o + s))) (𝓛.laws.room_uncons (elτ E) n b o) $ split ! $ move ! (1 ∷ []) $
      as_raw ! (ty_array (elτ E) n) b (o + s) $ move ! (1 ∷ 0 ∷ []) $ done !

  one_in : (n o : ℕ) → ent 𝓤 (sep 𝓤 (H.room (elτ E) b o) (sem 𝓛 (Bare n (o + s)))) (sem 𝓛 (Bare (suc n) o))
  one_in n o = qed 𝓛 (‵ (froom (elτ E) b o) ∷ ‵ (Bare n (o + s)) ∷ []) ∵ move ! (1 ∷ []) $ as_written ! (ty_array (elτ E) n) b (o + s) $ move ! (1 ∷ 0 ∷ []) $
      use2 𝓛 (‵ (froom (ty_array (elτ E) (suc n)) b o)) (𝓛.laws.room_cons (elτ E) n b o) $ as_raw ! (ty_array (elτ E) (suc n)) b o $ done !

  pub next_out : (xs : List (el_x E)) (n o at : ℕ) → at ≡ length xs * s + o → ent 𝓤 (sem 𝓛 (Laid o xs (suc n))) (sep 𝓤 (H.room (elτ E) b at) (sem 𝓛 (Others o xs n)))
  next_out [] n o at e = let here : o ≡ at = omega (arith, zero-mul s) in
      subst (λ (k : ℕ). ent 𝓤 (sem 𝓛 (Laid o [] (suc n))) (sep 𝓤 (H.room (elτ E) b k) (sem 𝓛 (Others o [] n)))) here (one_out n o)
  next_out (x ∷ xs) n o at e = let far : at ≡ suc (length xs) * s + o = e in
      qed 𝓛 (‵ (Laid o (x ∷ xs) (suc n)) ∷ []) ∵ fsplit ! $ move ! (1 ∷ []) $
      use1 𝓛 (‵ (froom (elτ E) b at) ⊛ ‵ (Others (o + s) xs n)) (next_out xs n (o + s) at (omega (arith, suc-mul (length xs) s))) $ split ! $ move ! (2 ∷ 1 ∷ []) $ fjoin ! $ move ! (1 ∷ 0 ∷ []) $ done !

  pub next_in : (xs : List (el_x E)) (y : el_x E) (n o at : ℕ) → at ≡ length xs * s + o → ent 𝓤 (sep 𝓤 (sem 𝓛 (Part y at)) (sem 𝓛 (Others o xs n))) (sem 𝓛 (Laid o (xs ++ y ∷ []) n))
  next_in [] y n o at e = let here : o ≡ at = omega (arith, zero-mul s) in
      subst (λ (k : ℕ). ent 𝓤 (sep 𝓤 (sem 𝓛 (Part y k)) (sem 𝓛 (Others o [] n))) (sem 𝓛 (Laid o (y ∷ []) n))) here (id⊢ 𝓤 _)
  next_in (x ∷ xs) y n o at e = let far : at ≡ suc (length xs) * s + o = e in
      qed 𝓛 (‵ (Part y at) ∷ ‵ (Others o (x ∷ xs) n) ∷ []) ∵ move ! (1 ∷ []) $ fsplit ! $ move ! (2 ∷ 1 ∷ []) $
      use2 𝓛 (‵ (Laid (o + s) (xs ++ y ∷ []) n)) (next_in xs y n (o + s) at (omega (arith, suc-mul (length xs) s))) $ move ! (1 ∷ 0 ∷ []) $ fjoin ! $ done !

  emptied : (x : el_x E) (o : ℕ) → ent 𝓤 (sem 𝓛 (Part x o)) (H.room (elτ E) b o)
  emptied x o = qed 𝓛 (‵ (Part x o) ∷ []) ∵
      use1 𝓛 (some (λ (v : Val). ‵ (fat full_share (elτ E) b o v) ⊛ ‵ ((R E).own_val x (v ∷ [])))) (part_out 𝓛 (R E) refl full_share x b o) $
      pick ! (λ v. split ! $ keep ! (0 ∷ []) $ by ! (𝓛.laws.at_room (elτ E) b o v))

  all_emptied : (xs : List (el_x E)) (n o m : ℕ) → m ≡ length xs + n → ent 𝓤 (sem 𝓛 (Laid o xs n)) (sem 𝓛 (Bare m o))
  all_emptied [] n o m e = let same : n ≡ m = omega arith in subst (λ (k : ℕ). ent 𝓤 (sem 𝓛 (Bare n o)) (sem 𝓛 (Bare k o))) same (id⊢ 𝓤 _)
  all_emptied (x ∷ xs) n o m e =
      let k = length xs + n in let more : suc k ≡ m = omega arith in
      subst (λ (j : ℕ). ent 𝓤 (sem 𝓛 (Laid o (x ∷ xs) n)) (sem 𝓛 (Bare j o))) more (
      qed 𝓛 (‵ (Laid o (x ∷ xs) n) ∷ []) ∵ fsplit ! $ use1 𝓛 (‵ (froom (elτ E) b o)) (emptied x o) $ move ! (1 ∷ []) $
      use1 𝓛 (‵ (Bare k (o + s))) (all_emptied xs n (o + s) k refl) $ move ! (1 ∷ 0 ∷ []) $ by ! (one_in k o))

  pub fewer : (kept : ℕ) (xs : List (el_x E)) (n o m : ℕ) → length (take kept xs) + m ≡ length xs + n → ent 𝓤 (sem 𝓛 (Laid o xs n)) (sem 𝓛 (Laid o (take kept xs) m))
  fewer zero xs n o m e = all_emptied xs n o m (omega arith)
  fewer (suc kept) [] n o m e = all_emptied [] n o m (omega arith)
  fewer (suc kept) (x ∷ xs) n o m e = mono_r 𝓤 (sem 𝓛 (Part x o)) (fewer kept xs n (o + s) m (omega arith))

  module _ (κ : Lft) where
    abbrev Seen : ℕ → List (el_x E) → Fml
    Seen o xs = elements_shared (R E) xs b o κ

    from_on : (xs : List (el_x E)) (i o at : ℕ) → i ≤ length xs → at ≡ i * s + o → ent 𝓤 (sem 𝓛 (Seen o xs)) (sem 𝓛 (Seen at (drop i xs)))
    from_on xs zero o at le e = let here : o ≡ at = omega (arith, zero-mul s) in subst (λ (k : ℕ). ent 𝓤 (sem 𝓛 (Seen o xs)) (sem 𝓛 (Seen k xs))) here (id⊢ 𝓤 _)
    from_on [] (suc i) o at le e = absurd (omega arith)
    from_on (x ∷ xs) (suc i) o at le e =
        via 𝓤 (sem 𝓛 (Seen (o + s) xs)) (snd∗ 𝓤 (sem 𝓛 (shared_of (R E) x b o κ)) (sem 𝓛 (Seen (o + s) xs))) (from_on xs i (o + s) at (omega arith) (omega (arith, suc-mul i s)))

    up_to : (xs : List (el_x E)) (n o : ℕ) → ent 𝓤 (sem 𝓛 (Seen o xs)) (sem 𝓛 (Seen o (take n xs)))
    up_to xs zero o = qed 𝓛 (‵ (Seen o xs) ∷ []) ∵ keep ! [] $ done !
    up_to [] (suc n) o = id⊢ 𝓤 _
    up_to (x ∷ xs) (suc n) o = mono_r 𝓤 (sem 𝓛 (shared_of (R E) x b o κ)) (up_to xs n (o + s))

    pub part_seen : (xs : List (el_x E)) (i n o : ℕ) → i ≤ length xs → ent 𝓤 (sem 𝓛 (Seen o xs)) (sem 𝓛 (Seen (i * s + o) (take n (drop i xs))))
    part_seen xs i n o le = via 𝓤 (sem 𝓛 (Seen (i * s + o) (drop i xs))) (from_on xs i o (i * s + o) le refl) (up_to (drop i xs) n (i * s + o))
