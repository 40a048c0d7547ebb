use Rattle.std.proofs.Common.{◌≡◌, Some, slice_get, sym, ◌∙◌, subst}
use Rattle.std.proofs.lemmas.Option.{slice_get_within}
use Rattle.fill_arena.specs.declared.entry.Entry.TheVariants.{Atoms}
use Rattle.fill_meet.proofs.Listed.{one_atoms}
use Rattle.fill_meet.proofs.Lists.{here}
use Rattle.fill_meet.proofs.sets.item_at.Goals as goal

pub returns-clause-older : goal.returns-clause-older
returns-clause-older c =
    let xs = c.atoms-items.result.now in
    let is = c.requires in
    let same = one_atoms is.1.0 xs (sym is.1.1 ∙ c.atoms-items.ensures) in
    let lt = slice_get_within xs c.args.i is.0 (subst (λ l. slice_get l c.args.i ≡ Some is.0) same is.1.2) in
    let x = c.index-items-i.result in
    (c.keeps_made.ensures c.args.s (Atoms xs) c.atoms-items.ensures).each c.args.i _ (here xs c.args.i _ lt c.index-items-i.is)
