use Rattle.std.proofs.Common.{◌≡◌, length, refl, sym, subst, ◌∙◌, slice_get, Some}
use Rattle.std.specs.Prelude.{OnOk}
use Rattle.std.proofs.lemmas.Option.{slice_get_read, slice_get_within, same_Some}
use Rattle.fill_tokens.specs.Place.{place_cmp}
use Rattle.fill_places.specs.declared.entry.Entry.{Entry}
use Rattle.fill_text.specs.Lists.{Adds}
use Rattle.fill_places.specs.Wanted.{PairOf}
use Rattle.fill_places.proofs.list.push_numbered.Goals as goal

pub returns : goal.returns
returns c = λ r at.
    let es = c.args.rights.now in
    let e : Entry = c.index-rights-number.result in
    let there : slice_get es c.args.number ≡ Some e = slice_get_read es (length es) c.args.number e refl (slice_get_within es c.args.number r at) c.index-rights-number.is in
    let same : e ≡ r = same_Some e r (sym there ∙ at) in
    subst (λ (z : Entry). OnOk c.push_pair.result (Adds place_cmp c.args.out.now c.push_pair.new.out (PairOf c.args.token_set c.args.t.now c.args.k c.args.l.now.seq z.seq))) same c.push_pair.ensures
