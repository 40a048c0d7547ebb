use Rattle.std.proofs.Common.{arith, ◌≡◌, ℕ, length, subst, get_or, slice_get, Some}
use Rattle.std.proofs.lemmas.Option.{slice_get-get_or}
use Rattle.fill_tokens.specs.Place.{place_cmp}
use Rattle.fill_text.specs.Lists.{Adds}
use Rattle.fill_places.specs.Wanted.{RowOf}
use Rattle.fill_places.proofs.RowLaws.{number_is, row_more, row_all}
use Rattle.fill_places.proofs.list.push_row.Goals as goal

pub push_numbered-requires-clause-number : goal.push_numbered-requires-clause-number
push_numbered-requires-clause-number c = number_is c.args.rights.now c.args.k c.args.numbers.now c.loop-j.j (get_or c.args.numbers.now c.loop-j.j 0) c.requires.numbers
    (slice_get-get_or c.args.numbers.now c.loop-j.j 0 (omega arith))

pub loop-j-preserved : goal.loop-j-preserved
loop-j-preserved c =
    let numbers = c.args.numbers.now in
    let i : ℕ = get_or numbers c.loop-j.j 0 in
    let at : slice_get numbers c.loop-j.j ≡ Some i = slice_get-get_or numbers c.loop-j.j 0 (omega arith) in
    let e = number_is c.args.rights.now c.args.k numbers c.loop-j.j i c.requires.numbers at in
    row_more c.args.token_set c.args.t.now c.args.k c.args.l.now.seq c.args.rights.now numbers c.requires.rights.rising c.requires.numbers c.loop-j.j i e.0 at e.1
    c.args.out.now c.loop-j.out c.push_numbered.new.out c.loop-j.invariant (c.in_ok-push_numbered.ensures e.0 e.1)

pub returns : goal.returns
returns c =
    let e : c.loop-j.j ≡ length c.args.numbers.now = omega arith in
    row_all c.args.token_set c.args.t.now c.args.k c.args.l.now.seq c.args.rights.now c.args.numbers.now c.args.out.now c.loop-j.out c.requires.rights c.requires.numbers
    (subst (λ (m : ℕ). Adds place_cmp c.args.out.now c.loop-j.out (RowOf c.args.token_set c.args.t.now c.args.k c.args.l.now.seq c.args.rights.now c.args.numbers.now m)) e c.loop-j.invariant)
