use Rattle.std.proofs.Common.{arith, ◌≡◌, ◌<◌, ◌+◌, ◌++◌, ◌∷◌, [], ℕ, List, length, refl, slice_get, Some}
use Rattle.std.specs.Ordering.{nat_cmp}
use Rattle.std.proofs.lemmas.Option.{slice_get_read}
use Rattle.std.proofs.lemmas.Bool.{iff_false}
use Rattle.fill_places.specs.declared.entry.Entry.{Entry}
use Rattle.fill_text.specs.Lists.{Adds}
use Rattle.fill_places.specs.Entries.{IsMarkedAt}
use Rattle.fill_text.proofs.ListReads.{on_ok}
use Rattle.fill_places.proofs.RowLaws.{marked_not, marked_more}
use Rattle.fill_places.proofs.list.push_number.Goals as goal

pub returns-then-not-has : goal.returns-then-not-has
returns-then-not-has c = λ old a.
    let es = c.args.entries.now in
    let e : Entry = c.index-entries-i.result in
    let at : slice_get es c.args.i ≡ Some e = slice_get_read es (length es) c.args.i e refl c.requires.number c.index-entries-i.is in
    let flag = iff_false c.has.ensures c.if-not-has.true in
    marked_not es c.args.k c.args.i e old c.args.numbers.now at flag a

pub returns : goal.returns
returns c =
    let es = c.args.entries.now in
    let e : Entry = c.index-entries-i.result in
    let at : slice_get es c.args.i ≡ Some e = slice_get_read es (length es) c.args.i e refl c.requires.number c.index-entries-i.is in
    let flag = c.has.ensures.0 c.if-not-has.false in
    on_ok c.push.result (c.push.new.self ≡ c.args.numbers.now ++ c.args.i ∷ [])
    ((old : List ℕ) → Adds nat_cmp old c.args.numbers.now (λ j. (j < c.args.i) × IsMarkedAt es c.args.k j) → Adds nat_cmp old c.push.new.self (λ j. (j < c.args.i + 1) × IsMarkedAt es c.args.k j))
    (λ h old a. marked_more es c.args.k c.args.i old c.args.numbers.now c.push.new.self a h (e, at, flag)) c.push.ensures.ok

pub has-requires : goal.has-requires
has-requires c =
    let es = c.args.entries.now in
    let e : Entry = c.index-entries-i.result in
    let at : slice_get es c.args.i ≡ Some e = slice_get_read es (length es) c.args.i e refl c.requires.number c.index-entries-i.is in
    let m = (c.requires.entries.each c.args.i e at).0 in
    omega (arith, m.long, c.requires.within)
