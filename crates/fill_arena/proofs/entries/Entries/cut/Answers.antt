use Rattle.std.proofs.Common.{◌≡◌, ◌≤◌, map, length, take, sym, ap, ◌∙◌, subst}
use Rattle.std.proofs.lemmas.List.{length-take-le, take-map}
use Rattle.fill_arena.specs.Entries.{AreInPool, entry_at}
use Rattle.fill_arena.proofs.Pooled.{end_within, shown_cut}
use Rattle.fill_arena.proofs.entries.Entries.cut.Goals as goal

pub cut-requires : goal.cut-requires
cut-requires c =
    let ks = c.self.inside.stored.items in let b = length c.self.inside.places in let n = c.args.count in let m = c.in-Some.mark in
    let front : AreInPool 0 (take n ks) m = subst (λ l. AreInPool 0 (take n l) m) c.as_slice.ensures.value (c.in-Some.ensures b (subst (λ l. AreInPool 0 l b) (sym c.as_slice.ensures.value) c.self.invariant)) in
    end_within b ks n m c.self.invariant front

pub invariant_of-self : goal.invariant_of-self
invariant_of-self c =
    let ks = c.self.inside.stored.items in let places = c.self.inside.places in let b = length places in let n = c.args.count in let m = c.in-Some.mark in
    let front : AreInPool 0 (take n ks) m = subst (λ l. AreInPool 0 (take n l) m) c.as_slice.ensures.value (c.in-Some.ensures b (subst (λ l. AreInPool 0 l b) (sym c.as_slice.ensures.value) c.self.invariant)) in
    let le : m ≤ b = end_within b ks n m c.self.invariant front in
    let long : length c.cut.new.self ≡ m = ap length c.cut.ensures ∙ length-take-le m places le in
    subst (λ l. AreInPool 0 l (length c.cut.new.self)) (sym c.truncate.ensures.items) (subst (AreInPool 0 (take n ks)) (sym long) front)

pub returns-in-Some : goal.returns-in-Some
returns-in-Some c =
    let ks = c.self.inside.stored.items in let places = c.self.inside.places in let b = length places in let n = c.args.count in let m = c.in-Some.mark in
    let front : AreInPool 0 (take n ks) m = subst (λ l. AreInPool 0 (take n l) m) c.as_slice.ensures.value (c.in-Some.ensures b (subst (λ l. AreInPool 0 l b) (sym c.as_slice.ensures.value) c.self.invariant)) in
    ap (λ l. map (entry_at c.cut.new.self) l) c.truncate.ensures.items ∙ ap (λ p. map (entry_at p) (take n ks)) c.cut.ensures ∙ shown_cut ks n m places front ∙ ap (take n) c.self.view_is

pub returns-in_default : goal.returns-in_default
returns-in_default c =
    let ks = c.self.inside.stored.items in let places = c.self.inside.places in let n = c.args.count in
    ap (λ l. map (entry_at places) l) c.truncate.ensures.items ∙ sym (take-map (entry_at places) n ks) ∙ ap (take n) c.self.view_is
