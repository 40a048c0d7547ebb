use Rattle.std.proofs.Common.{◌≡◌, ◌++◌, ◌∷◌, [], sym, ◌∙◌, ap, subst}
use Rattle.std.specs.Result.{OnOk}
use Rattle.fill_arena.specs.Contents.{In}
use Rattle.fill_arena.proofs.Indexed.{inserted}
use Rattle.fill_arena.proofs.index.Index.push.Goals as goal
use Rattle.fill_arena.proofs.index.Index.push.Goals.{in-Ok, in-Err}

pub returns-clause-ok : goal.returns-clause-ok
returns-clause-ok c =
    let old = c.self.inside.slots.keys in
    let slot = c.args.slot in
    let none = subst (λ l. In slot l → ⊥) (sym c.self.view_is) c.requires in
    elim c.match-insert.branch [
      | in-Ok w ↦
          let new = inserted old c.insert.new.self.keys slot none w.in-Ok.ensures.keys ∙ ap (λ l. l ++ slot ∷ []) c.self.view_is in
          subst (λ r. OnOk r (c.insert.new.self.keys ≡ c.args.self.now ++ slot ∷ [])) (sym w.result-is) new
      | in-Err w ↦ subst (λ r. OnOk r (c.insert.new.self.keys ≡ c.args.self.now ++ slot ∷ [])) (sym w.result-is) tt
    ]
