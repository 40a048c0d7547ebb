-- `put` takes the first place behind the items out of the room there, and writes the item into it. Assumes `Logic`.
use mathlib.Core.Path.{◌≡◌, refl, sym, ap, subst, ◌∙◌}
use Prim.Native.Nat.{ℕ, suc, ◌+◌, ◌-◌, ◌*◌, ◌<◌, ◌^◌}
use native.Mathlib.Omega.{arith}
use mathlib.Core.List.{List, [], ◌∷◌, ◌++◌}
use lib.ListN.{length}
use seplogic.Ra.Ura.{Ura}
use base.Fraction.{full_share}
use base.Logic.{SProp, ent, never, id⊢}
use base.Fml.{Lft, GName, Share, ftrue, fat, froom, flft, fobs, fbor}
use mir.Syntax.{Fn, named, w64}
use mir.MapTy.{inst_fn}
use mir.Val.{Val, vptr, vint, vunit}
use prog.Wp.{Env, Calls, Loops, WpFn, Tables}
use types.Logic.{Logic}
use types.Kit.{Item, ⋆, ‵, ◌⊛◌, at_ret, ◌$◌, ◌∵◌, !, qed, by, move, keep, use1, use2, split, join, rewrite, fsplit, fsplit3, fjoin, fjoin3, feq_i, feq_l, flt_l, flt_i, suffices, frame, done}
use types.Part.{whole, sub}
use types.Run.{init, stop, fld, unit_lit, of_opd, bin, size_lit, assigns_last, first, blocks, exec, returns, enter}
use types.ByLocal.{alloc_all, pass_all, free_all, look_at, get, get_in, take_at, give_at, through, sets, env}
use types.SemTy.{Body as Borrowed}
use contract.Monad.{fact}
use contract.Running.{tables, tables_of}
use sound.WpLaws.{WpFn-mono}
use denote.Builtin.{RefMutOf, unit, usize}
use denote.Exit.{yes, no}
use denote.Memory.{mem, part_at}
use denote.Param.{layout}
use denote.RattleType.{owns}
use denote.RawPtr.{Ptr, in_a_block}
use denote.Ref.{MutBor, MutRef}
use denote.Signature.{plain}
use denote.Steps.{nothing, opens, closes}
use denote.Triple.Carry.{spared}
use denote.Triple.Clauses.{Clauses, Ended, closing}
use denote.Triple.Entry.{on_entry}
use denote.Triple.Spec.{Meets, triple_of}
use denote.Triple.Table.{entered, run_framed}
use denote.Triple.Walked.{says, needs, Stays, stay_dropped, stay_ref, walk_of, ends_at, Goes-dropped, Goes-ref, walk_Meets}
use borrow.Table.OneValue.{part_in}
use Rattle.std.proofs.lemmas.List.{length_push}
use Rattle.core.proofs.mem.Param.{El, R, args, elτ}
use Rattle.core.proofs.ptr.Rows.{times_below, one_below}
use Rattle.std_alloc.proofs.VecSteps.Shapes.{after}
use Rattle.std_alloc.proofs.RcSteps.{Good, word, word-Good}
use Rattle.fill_pool.specs.Ownership.{laid, owns_store}
use Rattle.fill_pool.proofs.Blocks.{Sr, St, each, start_had, one_value, Others, next_out, next_in}
use Rattle.fill_pool.specs.contracts.block.Store.put.Key.{name as #self}
use Rattle.fill_pool.proofs.block.Store.put.Statement as stated
use Rattle.fill_pool.proofs.block.Store.put.Code as code

module _ (E : El) where
  abbrev function : Fn
  function = inst_fn (args E) code.function

  abbrev ended : Ended
  ended = record {
    signature = record {
      lifetimes = 1;
      outlives = [];
      params = RefMutOf (0 ∷ []) tt (plain (λ _. Sr E)) (λ _. tt) ∷ plain (λ _. St E) ∷ plain (λ _. usize) ∷ plain (λ _. R E) ∷ [];
      result = plain (λ _. unit);
    };
    kept = (yes, (no, (yes, (no, tt))));
  }

  abbrev stayed : Stays ended.signature.params ended.kept
  stayed = (stay_ref (0 ∷ []) tt (plain (λ _. Sr E)), (stay_dropped (plain (λ _. St E)) no, (stay_dropped (plain (λ _. usize)) yes, (stay_dropped (plain (λ _. R E)) no, tt))))

  abbrev Asks : (Sr E).Denot → (St E).Denot → ℕ → Type 0
  Asks d start count = (start.at ≡ d.at) × (count ≡ length d.items) × (0 < d.free)

  abbrev Says : (Sr E).Denot → (R E).Denot → (Sr E).Denot → Type 0
  Says d item new = (new.at ≡ d.at) × (new.items ≡ d.items ++ item ∷ []) × (new.free + 1 ≡ d.free)

  abbrev spec : {M : Type 1} {𝓤 : Ura M} (𝓛 : Logic 𝓤) → Clauses 𝓤 ended
  spec {𝓤 = 𝓤} 𝓛 κs a = record { ghost = Unit {0}; requires = λ _. fact 𝓤 (Asks a.0.now a.1.0 a.1.1.0); ensures = λ _ r w. fact 𝓤 (Says a.0.now a.1.1.1.0 w.0.now) }

module _ (E : El) {M : Type 1} {𝓤 : Ura M} (𝓛 : Logic 𝓤) (C : Calls 𝓤 𝓛.H) (Λ : Loops 𝓤 𝓛.H) (κ : Lft) (q : Share) (rb ro : ℕ) (γ : GName) (d : (Sr E).Denot) (start : (St E).Denot) (count : ℕ) (item : (R E).Denot) (us0 us1 us2 us3 : List Val) where
  open 𝓛 use {H, A}

  abbrev self : MutBor (Sr E).Denot
  self = record { ref_ptr = (rb, ro); ghost_name = γ; now = d }

  abbrev bound : (walk_of 𝓛 (ended E) (stayed E) (spec E 𝓛)).Ghost
  bound = (((κ, tt), (q, tt), tt, (self, (start, (count, (item, tt)))), (us0, (us1, (us2, (us3, tt))))), tt)

  abbrev Post : Val → SProp 𝓤
  Post = (walk_of 𝓛 (ended E) (stayed E) (spec E 𝓛)).post bound

  abbrev Left : (Sr E).Denot → List (Item 𝓤)
  Left new = ‵ (fobs γ ((Sr E).coded.code new)) ∷ ‵ (fbor κ (Borrowed (mem (Sr E)) rb ro γ)) ∷ ‵ (flft κ q) ∷ []

  exits : us0 ≡ vptr rb ro ∷ [] → (new : (Sr E).Denot) → Says E d item new → ent 𝓤 (⋆ 𝓛 (‵ (unit.own_val tt (vunit ∷ [])) ∷ Left new)) (Post vunit)
  exits passed new said =
      qed 𝓛 (‵ (unit.own_val tt (vunit ∷ [])) ∷ Left new) ∵
      suffices ! _ (ends_at 𝓛 (ended E) (stayed E) (spec E 𝓛) bound vunit tt (new, (tt, (tt, (tt, tt)))) (tt, (tt, (tt, (tt, tt))))) $ says ! said $
      move ! (1 ∷ 2 ∷ 3 ∷ 0 ∷ []) $ nothing ! $ move ! (3 ∷ 0 ∷ []) $ join ! $ frame ! $ feq_i ! (List Val) us0 (vptr rb ro ∷ []) passed $ fjoin3 ! $
      nothing ! $ nothing ! $ fjoin ! $ nothing ! $ fjoin ! $ nothing ! $ fjoin ! $ move ! (1 ∷ 0 ∷ []) $ fjoin ! $ done !

  abbrev Had : Val → List (Item 𝓤)
  Had v = ‵ (fobs γ ((Sr E).coded.code d)) ∷ ‵ (fbor κ (Borrowed (mem (Sr E)) rb ro γ)) ∷ ‵ (flft κ q) ∷ ‵ ((R E).own_val item (v ∷ [])) ∷ []

  walk : us0 ≡ vptr rb ro ∷ [] → Asks E d start count → count < 2 ^ 64 → (v : Val) → Good (layout (R E)) v
      → ent 𝓤 (⋆ 𝓛 (Had v)) (WpFn 𝓤 H C Λ (function E) (vptr rb ro ∷ word start.at ∷ vint w64 count ∷ v ∷ []) Post)
  walk passed asked number v good =
      let s = each E in let n = d.free - 1 in
      let more : d.free ≡ suc n = omega arith in
      let new : (Sr E).Denot = record { mark = d.mark; at = d.at; items = d.items ++ item ∷ []; free = n } in
      let as_many : length d.items + d.free ≡ length new.items + n = omega (arith, length_push d.items item) in
      qed 𝓛 (Had v) ∵ enter ! C Λ (function E) (vptr rb ro ∷ word start.at ∷ vint w64 count ∷ v ∷ []) _ $
      alloc_all ! (λ l. pass_all ! refl ((tt, tt), (word-Good [] start.at, ((tt, record { fits = number }), (good, tt)))) $
      let En : Env 𝓤 H = env (function E).locals l in
      -- the owner is opened: where the block lies, and that it is small
      opens ! tt (Sr E) {h = d} rb ro (λ vs. move ! (1 ∷ []) $ fsplit ! $ move ! (1 ∷ []) $
      in_a_block ! d.at (λ p. owns_store (R E) p d.items d.free) (id⊢ 𝓤 (never 𝓤)) (λ b o e. fsplit ! $ flt_l ! (λ small.
      let at = count * s + o in let here : at ≡ length d.items * s + o = ap (λ k. k * s + o) asked.1 in
      let size : s < 2 ^ 64 = omega (arith, one_below (length d.items + d.free) s (2 ^ 63) (omega arith) small) in
      let far : count * s < 2 ^ 64 = omega (arith, times_below count (length d.items + d.free) s (2 ^ 63) (omega arith) small) in
      take_at ! 2 $ rewrite ! 0 (λ (p : Ptr). ‵ (fat full_share (layout (St E)) (l 2) 0 (word p))) (asked.0 ∙ e) refl $ give_at ! 2 $ first ! $ blocks ! $
      sets ! (bin ! (get ! refl) (size_lit ! (record { fits = size })) (record { fits = far })) refl (tt, record { fits = far }) $
      sets ! (bin ! (get_in ! (fld ! refl (stop !)) (sub ! 0 refl (whole !))) (get ! refl) tt) refl (tt, tt) $
      -- the place behind the items, and the write
      rewrite ! 0 (λ (k : ℕ). ‵ (laid (R E) b o d.items k)) more refl $
      use1 𝓛 (‵ (froom (elτ E) b at) ⊛ ‵ (Others E 𝓛 b o d.items n)) (next_out E 𝓛 b d.items n o at here) $ split ! $
      sets ! (of_opd ! (get ! refl)) refl good $ assigns_last ! (of_opd ! (get ! refl)) (through ! refl (stop !)) (init ! 0 refl good) $
      exec ! C Λ En (after 1 (function E).body) (at_ret En Post) $ sets ! (of_opd ! (unit_lit !)) refl (tt, tt) $
      -- [the place; the others; the mark; its cell; the open borrow; obs; auth; what the item owns]
      move ! (0 ∷ 7 ∷ []) $ use2 𝓛 (‵ (part_at (R E) full_share item b at)) (part_in 𝓛 (R E) refl full_share item b at v) $
      use2 𝓛 (‵ (laid (R E) b o new.items n)) (next_in E 𝓛 b d.items item n o at here) $
      flt_i ! ((length new.items + n) * s) (2 ^ 63) (subst (λ k. k * s < 2 ^ 63) as_many small) $ fjoin ! $
      rewrite ! 0 (λ (p : Ptr). ‵ (owns_store (R E) p new.items n)) (sym e) refl $ move ! (1 ∷ 0 ∷ []) $ fjoin ! $ move ! (1 ∷ 0 ∷ []) $ closes ! tt (Sr E) new vs rb ro $
      returns ! (look_at ! 0 refl) $ free_all ! refl $ keep ! (0 ∷ 1 ∷ 2 ∷ []) $ feq_i ! (List Val) (vunit ∷ []) (vunit ∷ []) refl $
      by ! (exits passed new (refl, refl, omega arith))))))

  entry : Asks E d start count → ent 𝓤 (on_entry 𝓛 (ended E).signature (κ, tt) (q, tt) (self, (start, (count, (item, tt)))) (us0, (us1, (us2, (us3, tt))))) (WpFn 𝓤 H C Λ (function E) (us0 ++ (us1 ++ (us2 ++ (us3 ++ [])))) Post)
  entry asked =
      qed 𝓛 ((‵ (flft κ q) ⊛ ‵ ftrue) ∷ ‵ (owns (MutRef (named 0) κ (Sr E) ∷ St E ∷ usize ∷ R E ∷ []) (self, (start, (count, (item, tt)))) (us0, (us1, (us2, (us3, tt))))) ∷ []) ∵
      split ! $ move ! (2 ∷ []) $ fsplit ! $ fsplit3 ! $ feq_l ! (λ e0. move ! (2 ∷ []) $ fsplit ! $ start_had ! start.at us1 (λ e1.
      fsplit ! $ fsplit ! $ feq_l ! (λ e2. flt_l ! (λ number. fsplit ! $ one_value ! E item us3 (λ v e3 good.
      keep ! (2 ∷ 3 ∷ 4 ∷ 0 ∷ []) $
      by ! (subst (λ (ws : List Val × List Val × List Val × List Val). ent 𝓤 (⋆ 𝓛 (Had v)) (WpFn 𝓤 H C Λ (function E) (ws.0 ++ (ws.1 ++ (ws.2 ++ (ws.3 ++ [])))) Post))
      (λ j. (sym e0 j, sym e1 j, sym e2 j, sym e3 j)) (walk e0 asked number v good)))))))

meets : (E : El) {M : Type 1} {𝓤 : Ura M} (𝓛 : Logic 𝓤) (𝓣 : Tables 𝓤 𝓛.H) → Meets 𝓛 (ended E).signature (WpFn 𝓤 𝓛.H 𝓣.C 𝓣.Λ (function E)) (closing 𝓛 (ended E) (spec E 𝓛))
meets E {𝓤 = 𝓤} 𝓛 𝓣 =
    walk_Meets 𝓛 (ended E) (stayed E)
    (Goes-ref 𝓛 1 0 tt (plain (λ _. Sr E)), (Goes-dropped 𝓛 1 (plain (λ _. St E)) no (λ κs x f. refl), (Goes-dropped 𝓛 1 (plain (λ _. usize)) yes (λ κs x f. refl), (Goes-dropped 𝓛 1 (plain (λ _. R E)) no (λ κs x f. refl), tt))))
    (spec E 𝓛) (WpFn 𝓤 𝓛.H 𝓣.C 𝓣.Λ (function E)) (WpFn-mono 𝓤 𝓛.H 𝓛.laws 𝓣 (function E))
    (λ z. let a = z.0.3 in let us = z.0.4 in
    needs 𝓤 (Asks E a.0.now a.1.0 a.1.1.0) _ (entry E 𝓛 𝓣.C 𝓣.Λ z.0.0.0 z.0.1.0 a.0.ref_ptr.0 a.0.ref_ptr.1 a.0.ghost_name a.0.now a.1.0 a.1.1.0 a.1.1.1.0 us.0 us.1.0 us.1.1.0 us.1.1.1.0))

pub put_spec : {M : Type 1} → stated.statement M
unfolding tables_of
put_spec 𝓤 𝓛 𝓜 𝓡 wired X LX y =
    let E : El = record { row = X; laws = LX } in
    let 𝓣 : Tables 𝓤 𝓛.H = tables_of 𝓤 𝓛.H 𝓜 (tables 𝓤 𝓛.H 𝓜 𝓡 𝓡.env) in
    let key = #self (args E) in
    spared 𝓛 (ended E).signature (𝓡.run (𝓡.env key)) (run_framed 𝓤 𝓛.H 𝓜 𝓡 (𝓡.env key)) 1 (X.lives, tt) (closing 𝓛 (ended E) (spec E 𝓛))
    (entered 𝓤 𝓛.H (triple_of 𝓛 (ended E).signature (closing 𝓛 (ended E) (spec E 𝓛))) 𝓣.C 𝓣.Λ key (function E) (code.unfolded 𝓤 𝓛.H 𝓜 𝓡 wired (X, tt)) (meets E 𝓛 𝓣))
    ((y.0.0, y.0.1, tt, y.0.3, y.0.4), y.1)
