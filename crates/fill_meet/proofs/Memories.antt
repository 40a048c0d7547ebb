-- What the tables tell stays so.
use Rattle.std.proofs.Common.{◌≡◌, ℕ, Bool, true, false, cond, List, Option, Some, None, refl, sym, ◌∙◌, subst, rules}
use Rattle.std.specs.HashMap.{HashMap, get, Updates}
use Rattle.fill_arena.specs.Contents.{Extends}
use Rattle.fill_arena.specs.Stands.{PlaceStands}
use Rattle.fill_arena.specs.declared.entry.Entry.{Entry}
use Rattle.fill_meet.specs.declared.memo.Memo.{Memo}
use Rattle.fill_meet.specs.declared.verdicts.Verdict.{Verdict}
use Rattle.fill_meet.specs.Memory.{pair_eq, AreRight, IsRight, CommonTold, WithinTold}
use Rattle.fill_meet.proofs.Grows.{met_stay, place_sets_stay, source_sets_stay, atom_sets_stay}

within_stays : (c d : List Entry) → Extends c d → (r : Option (Verdict Bool)) → WithinTold c r → WithinTold d r
within_stays c d o None h = h
within_stays c d o (Some verdict) h = λ e. met_stay c d o PlaceStands verdict.s verdict.t verdict.s (h e)

common_stays : (c d : List Entry) → Extends c d → (r : Option (Verdict (Option ℕ))) → CommonTold c r → CommonTold d r
common_stays c d o None h = h
common_stays c d o (Some verdict) h = place_sets_stay c d o verdict.s verdict.t verdict.verdict h

pub right_stays : (c d : List Entry) → Extends c d → (memo : Memo) → IsRight c memo → IsRight d memo
right_stays c d o memo r =
    record {
      within = λ k verdict h. within_stays c d o verdict (r.within k verdict h);
      places = λ k verdict h. common_stays c d o verdict (r.places k verdict h);
      sources = record { each = λ k made h. source_sets_stay c d o k.0 k.1 made (r.sources.each k made h) };
      atoms = record { each = λ k made h. atom_sets_stay c d o k.0 k.1 made (r.atoms.each k made h) };
    }

pair_same : (x y : ℕ × ℕ) → pair_eq x y ≡ true → (x.0 ≡ y.0) × (x.1 ≡ y.1)
pair_same x y h = search rules

module _ {S V : Type 0} (Meet : ℕ → ℕ → V → Type 0) (old new : HashMap (ℕ × ℕ) V S) (s t : ℕ) (made : V) where
  put_step : (k : ℕ × ℕ) (m : V) (b : Bool) → pair_eq (s, t) k ≡ b → get pair_eq new k ≡ cond b (Some made) (get pair_eq old k) → get pair_eq new k ≡ Some m → Meet s t made → AreRight Meet old → Meet k.0 k.1 m
  put_step k m true e u h g r =
      let p = pair_same (s, t) k e in
      let q : Some made ≡ Some m = sym u ∙ h in
      let same : made ≡ m = cc in
      subst (λ v. Meet k.0 k.1 v) same (subst (λ v. Meet k.0 v made) p.1 (subst (λ v. Meet v t made) p.0 g))
  put_step k m false e u h g r = r.each k m (sym u ∙ h)

  pub right_put : Updates pair_eq old new (s, t) (Some made) → Meet s t made → AreRight Meet old → AreRight Meet new
  right_put u g r = record { each = λ k m h. put_step k m (pair_eq (s, t) k) refl (u.0 k) h g r }

-- where nothing was made, it is none
pub is_none : {A : Type 0} (o : Option A) → ((x : A) → o ≡ Some x → ⊥) → o ≡ None
is_none None n = refl
is_none (Some x) n = absurd (n x refl)
