use Rattle.std.proofs.Common.{◌≡◌, ◌+◌, ◌++◌, ◌∷◌, [], map, length, sym, ap, ◌∙◌, subst}
use Rattle.std.proofs.lemmas.List.{length_push}
use Rattle.fill_arena.specs.Entries.{AreInPool, entry_at}
use Rattle.fill_arena.specs.declared.entries.Stored.TheVariants.{Places}
use Rattle.fill_arena.specs.declared.entry.Entry.TheVariants as kind
use Rattle.fill_arena.proofs.Pooled.{places_pushed, shown_pushed}
use Rattle.fill_arena.proofs.entries.Entries.push_places.Goals as goal

pub invariant_of-self-2 : goal.invariant_of-self-2
invariant_of-self-2 c =
    let ks = c.self.inside.stored.items in let places = c.self.inside.places in let b = length places in
    let made = c.in_ok-span.ensures.ok in
    let items : c.push_reserved.new.self.items ≡ ks ++ Places b b ∷ [] =
    c.push_reserved.ensures.items ∙ ap (λ l. l ++ Places c.in_ok-span.span c.mark-before.result ∷ []) c.reserve.ensures.items
    ∙ ap (λ s. ks ++ Places s c.mark-before.result ∷ []) made.0 ∙ ap (λ m. ks ++ Places b m ∷ []) c.mark-before.ensures in
    let long : length c.append.new.self ≡ b + 1 = ap length made.1 ∙ length_push places c.args.places.now in
    subst (λ l. AreInPool 0 l (length c.append.new.self)) (sym items) (subst (AreInPool 0 (ks ++ Places b b ∷ [])) (sym long) (places_pushed 0 b ks c.self.invariant))

pub returns-clause-ok : goal.returns-clause-ok
returns-clause-ok c =
    let ks = c.self.inside.stored.items in let places = c.self.inside.places in let b = length places in
    let made = c.in_ok-span.ensures.ok in
    let items : c.push_reserved.new.self.items ≡ ks ++ Places b b ∷ [] =
    c.push_reserved.ensures.items ∙ ap (λ l. l ++ Places c.in_ok-span.span c.mark-before.result ∷ []) c.reserve.ensures.items
    ∙ ap (λ s. ks ++ Places s c.mark-before.result ∷ []) made.0 ∙ ap (λ m. ks ++ Places b m ∷ []) c.mark-before.ensures in
    ap (λ l. map (entry_at c.append.new.self) l) items ∙ ap (λ p. map (entry_at p) (ks ++ Places b b ∷ [])) made.1
    ∙ shown_pushed ks places c.args.places.now c.self.invariant ∙ ap (λ l. l ++ kind.Places c.args.places.now ∷ []) c.self.view_is
