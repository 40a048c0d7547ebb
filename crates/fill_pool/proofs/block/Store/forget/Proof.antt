-- `forget` makes room of the places of the items that go. Assumes `Logic`.
use mathlib.Core.Path.{◌≡◌, refl, sym, subst}
use Prim.Native.Nat.{ℕ, ◌+◌, ◌-◌, ◌*◌, ◌<◌, ◌^◌}
use native.Mathlib.Omega.{arith}
use mathlib.Core.List.{List, [], ◌∷◌, ◌++◌}
use lib.ListN.{length, take, length-take}
use seplogic.Ra.Ura.{Ura}
use base.Logic.{SProp, ent, emp, via, fst∗, never, id⊢}
use base.Fml.{Lft, GName, Share, ftrue, flft, fobs, fbor}
use mir.Syntax.{Fn, named, w64}
use mir.MapTy.{inst_fn}
use mir.Val.{Val, vptr, vint, vunit}
use prog.Wp.{Calls, Loops, WpFn, Tables}
use types.Logic.{Logic}
use types.Kit.{Item, ⋆, ‵, ◌⊛◌, ◌$◌, ◌∵◌, !, qed, by, move, keep, use1, split, join, rewrite, fsplit, fsplit3, fjoin, fjoin3, feq_i, feq_l, flt_l, flt_i, suffices, frame, done}
use types.Run.{unit_lit, of_opd, returns, enter}
use types.ByLocal.{alloc_all, pass_all, free_all, look_at, sets, env}
use types.SemTy.{Body as Borrowed}
use contract.Monad.{fact}
use contract.Running.{tables, tables_of}
use sound.WpLaws.{WpFn-mono}
use denote.Builtin.{RefMutOf, unit, usize}
use denote.Exit.{yes}
use denote.Memory.{mem}
use denote.RattleType.{owns}
use denote.RawPtr.{Ptr, in_a_block}
use denote.Ref.{MutBor, MutRef}
use denote.Signature.{plain}
use denote.Steps.{nothing, opens, closes}
use denote.Triple.Carry.{spared}
use denote.Triple.Clauses.{Clauses, Ended, closing}
use denote.Triple.Entry.{on_entry}
use denote.Triple.Spec.{Meets, triple_of}
use denote.Triple.Table.{entered, run_framed}
use denote.Triple.Walked.{says, Stays, stay_dropped, stay_ref, walk_of, ends_at, Goes-dropped, Goes-ref, walk_Meets}
use Rattle.core.proofs.mem.Param.{El, R, args}
use Rattle.fill_pool.specs.Ownership.{laid, owns_store}
use Rattle.fill_pool.proofs.Blocks.{Sr, each, fewer}
use Rattle.fill_pool.specs.contracts.block.Store.forget.Key.{name as #self}
use Rattle.fill_pool.proofs.block.Store.forget.Statement as stated
use Rattle.fill_pool.proofs.block.Store.forget.Code as code

module _ (E : El) where
  abbrev function : Fn
  function = inst_fn (args E) code.function

  abbrev ended : Ended
  ended = record {
    signature = record {
      lifetimes = 1;
      outlives = [];
      params = RefMutOf (0 ∷ []) tt (plain (λ _. Sr E)) (λ _. tt) ∷ plain (λ _. usize) ∷ [];
      result = plain (λ _. unit);
    };
    kept = (yes, (yes, tt));
  }

  abbrev stayed : Stays ended.signature.params ended.kept
  stayed = (stay_ref (0 ∷ []) tt (plain (λ _. Sr E)), (stay_dropped (plain (λ _. usize)) yes, tt))

  abbrev Says : (Sr E).Denot → ℕ → (Sr E).Denot → Type 0
  Says d kept new = (new.at ≡ d.at) × (new.items ≡ take kept d.items) × (length new.items + new.free ≡ length d.items + d.free)

  abbrev spec : {M : Type 1} {𝓤 : Ura M} (𝓛 : Logic 𝓤) → Clauses 𝓤 ended
  spec {𝓤 = 𝓤} 𝓛 κs a = record { ghost = Unit {0}; requires = λ _. emp 𝓤; ensures = λ _ r w. fact 𝓤 (Says a.0.now a.1.0 w.0.now) }

module _ (E : El) {M : Type 1} {𝓤 : Ura M} (𝓛 : Logic 𝓤) (C : Calls 𝓤 𝓛.H) (Λ : Loops 𝓤 𝓛.H) (κ : Lft) (q : Share) (rb ro : ℕ) (γ : GName) (d : (Sr E).Denot) (kept : ℕ) (us0 us1 : List Val) where
  open 𝓛 use {H, A}

  abbrev self : MutBor (Sr E).Denot
  self = record { ref_ptr = (rb, ro); ghost_name = γ; now = d }

  abbrev bound : (walk_of 𝓛 (ended E) (stayed E) (spec E 𝓛)).Ghost
  bound = (((κ, tt), (q, tt), tt, (self, (kept, tt)), (us0, (us1, tt))), tt)

  abbrev Post : Val → SProp 𝓤
  Post = (walk_of 𝓛 (ended E) (stayed E) (spec E 𝓛)).post bound

  abbrev Left : (Sr E).Denot → List (Item 𝓤)
  Left new = ‵ (fobs γ ((Sr E).coded.code new)) ∷ ‵ (fbor κ (Borrowed (mem (Sr E)) rb ro γ)) ∷ ‵ (flft κ q) ∷ []

  exits : us0 ≡ vptr rb ro ∷ [] → (new : (Sr E).Denot) → Says E d kept new → ent 𝓤 (⋆ 𝓛 (‵ (unit.own_val tt (vunit ∷ [])) ∷ Left new)) (Post vunit)
  exits passed new said =
      qed 𝓛 (‵ (unit.own_val tt (vunit ∷ [])) ∷ Left new) ∵
      suffices ! _ (ends_at 𝓛 (ended E) (stayed E) (spec E 𝓛) bound vunit tt (new, (tt, tt)) (tt, (tt, tt))) $ says ! said $
      move ! (1 ∷ 2 ∷ 3 ∷ 0 ∷ []) $ nothing ! $ move ! (3 ∷ 0 ∷ []) $ join ! $ frame ! $ feq_i ! (List Val) us0 (vptr rb ro ∷ []) passed $ fjoin3 ! $
      nothing ! $ nothing ! $ fjoin ! $ move ! (1 ∷ 0 ∷ []) $ fjoin ! $ done !

  walk : us0 ≡ vptr rb ro ∷ [] → kept < 2 ^ 64 → ent 𝓤 (⋆ 𝓛 (Left d)) (WpFn 𝓤 H C Λ (function E) (vptr rb ro ∷ vint w64 kept ∷ []) Post)
  walk passed number =
      let s = each E in let all = length d.items + d.free in
      let fewer_items = take kept d.items in let n = all - length fewer_items in
      let new : (Sr E).Denot = record { mark = d.mark; at = d.at; items = fewer_items; free = n } in
      let as_many : length new.items + n ≡ all = omega (arith, length-take kept d.items) in
      qed 𝓛 (Left d) ∵ enter ! C Λ (function E) (vptr rb ro ∷ vint w64 kept ∷ []) _ $ alloc_all ! (λ l. pass_all ! refl ((tt, tt), ((tt, record { fits = number }), tt)) $
      opens ! tt (Sr E) {h = d} rb ro (λ vs. move ! (1 ∷ []) $ fsplit ! $ move ! (1 ∷ []) $
      in_a_block ! d.at (λ p. owns_store (R E) p d.items d.free) (id⊢ 𝓤 (never 𝓤)) (λ b o e. fsplit ! $ flt_l ! (λ small.
      use1 𝓛 (‵ (laid (R E) b o new.items n)) (fewer E 𝓛 b kept d.items d.free o n as_many) $
      flt_i ! ((length new.items + n) * s) (2 ^ 63) (subst (λ k. k * s < 2 ^ 63) (sym as_many) small) $ fjoin ! $
      rewrite ! 0 (λ (p : Ptr). ‵ (owns_store (R E) p new.items n)) (sym e) refl $ move ! (1 ∷ 0 ∷ []) $ fjoin ! $ move ! (1 ∷ 0 ∷ []) $ closes ! tt (Sr E) new vs rb ro $
      sets ! (of_opd ! (unit_lit !)) refl (tt, tt) $
      returns ! (look_at ! 0 refl) $ free_all ! refl $ keep ! (0 ∷ 1 ∷ 2 ∷ []) $ feq_i ! (List Val) (vunit ∷ []) (vunit ∷ []) refl $
      by ! (exits passed new (refl, refl, as_many))))))

  entry : ent 𝓤 (on_entry 𝓛 (ended E).signature (κ, tt) (q, tt) (self, (kept, tt)) (us0, (us1, tt))) (WpFn 𝓤 H C Λ (function E) (us0 ++ (us1 ++ [])) Post)
  entry =
      qed 𝓛 ((‵ (flft κ q) ⊛ ‵ ftrue) ∷ ‵ (owns (MutRef (named 0) κ (Sr E) ∷ usize ∷ []) (self, (kept, tt)) (us0, (us1, tt))) ∷ []) ∵
      split ! $ move ! (2 ∷ []) $ fsplit ! $ fsplit3 ! $ feq_l ! (λ e0. move ! (2 ∷ []) $ fsplit ! $ fsplit ! $ feq_l ! (λ e1. flt_l ! (λ number.
      keep ! (1 ∷ 2 ∷ 3 ∷ []) $
      by ! (subst (λ (ws : List Val × List Val). ent 𝓤 (⋆ 𝓛 (Left d)) (WpFn 𝓤 H C Λ (function E) (ws.0 ++ (ws.1 ++ [])) Post)) (λ j. (sym e0 j, sym e1 j)) (walk e0 number)))))

meets : (E : El) {M : Type 1} {𝓤 : Ura M} (𝓛 : Logic 𝓤) (𝓣 : Tables 𝓤 𝓛.H) → Meets 𝓛 (ended E).signature (WpFn 𝓤 𝓛.H 𝓣.C 𝓣.Λ (function E)) (closing 𝓛 (ended E) (spec E 𝓛))
meets E {𝓤 = 𝓤} 𝓛 𝓣 =
    walk_Meets 𝓛 (ended E) (stayed E)
    (Goes-ref 𝓛 1 0 tt (plain (λ _. Sr E)), (Goes-dropped 𝓛 1 (plain (λ _. usize)) yes (λ κs x f. refl), tt))
    (spec E 𝓛) (WpFn 𝓤 𝓛.H 𝓣.C 𝓣.Λ (function E)) (WpFn-mono 𝓤 𝓛.H 𝓛.laws 𝓣 (function E))
    (λ z. let a = z.0.3 in let us = z.0.4 in
    via 𝓤 _ (fst∗ 𝓤 _ (emp 𝓤)) (entry E 𝓛 𝓣.C 𝓣.Λ z.0.0.0 z.0.1.0 a.0.ref_ptr.0 a.0.ref_ptr.1 a.0.ghost_name a.0.now a.1.0 us.0 us.1.0))

pub forget_spec : {M : Type 1} → stated.statement M
unfolding tables_of
forget_spec 𝓤 𝓛 𝓜 𝓡 wired X LX y =
    let E : El = record { row = X; laws = LX } in
    let 𝓣 : Tables 𝓤 𝓛.H = tables_of 𝓤 𝓛.H 𝓜 (tables 𝓤 𝓛.H 𝓜 𝓡 𝓡.env) in
    let key = #self (args E) in
    spared 𝓛 (ended E).signature (𝓡.run (𝓡.env key)) (run_framed 𝓤 𝓛.H 𝓜 𝓡 (𝓡.env key)) 1 (X.lives, tt) (closing 𝓛 (ended E) (spec E 𝓛))
    (entered 𝓤 𝓛.H (triple_of 𝓛 (ended E).signature (closing 𝓛 (ended E) (spec E 𝓛))) 𝓣.C 𝓣.Λ key (function E) (code.unfolded 𝓤 𝓛.H 𝓜 𝓡 wired (X, tt)) (meets E 𝓛 𝓣))
    ((y.0.0, y.0.1, tt, y.0.3, y.0.4), y.1)
