use Rattle.std.proofs.Common.{◌≡◌, ◌++◌, ◌∷◌, [], ℕ, length, sym, subst}
use Rattle.std.proofs.lemmas.Bool.{iff_false}
use Rattle.fill_places.specs.declared.entry.Entry.{Entry}
use Rattle.fill_tokens.specs.Span.{Spans}
use Rattle.fill_spans.specs.Pieces.{ArePieces, AreExactly}
use Rattle.fill_spans.specs.View.{SpansView}
use Rattle.fill_places.specs.Marks.{AreMarks, AreWithin, Reached}
use Rattle.fill_places.specs.Sides.{RightAt}
use Rattle.fill_places.specs.Entries.{AddsEntries, IsOnly}
use Rattle.fill_text.proofs.ListReads.{on_ok}
use Rattle.fill_places.proofs.EntryLaws.{grows_not, grows_one}
use Rattle.fill_places.proofs.HopLaws.{hops_back, starts_within, ends_within}
use Rattle.fill_places.proofs.MarkLaws.{right_barred, right_never, right_marks}
use Rattle.fill_places.proofs.rights.push_right.Goals as goal

pub returns-then-not-may_begin : goal.returns-then-not-may_begin
returns-then-not-may_begin c =
    grows_not (RightAt c.args.token_set c.args.t.now) (length c.args.t.now) (c.args.token ∷ c.args.e.now.seq) c.args.out.now.items
    (right_barred c.args.token_set c.args.t.now c.args.token c.args.e.now.seq (iff_false c.may_begin.ensures c.if-not-may_begin.true))

pub reaches-requires-clause-within : goal.reaches-requires-clause-within
reaches-requires-clause-within c =
    let t = c.args.t.now in
    let starts = c.as_slice-starts.result.now in
    let ends = c.as_slice-ends.result.now in
    let p = c.pieces-pieces.result.now in
    let given = subst (λ (v : SpansView). ArePieces c.args.token v.text p) c.requires.spans c.pieces-pieces.ensures in
    let are : AreExactly (Spans c.args.token t) starts ends =
    subst (λ z. AreExactly (Spans c.args.token t) z ends) (sym c.as_slice-starts.ensures.value)
    (subst (λ z. AreExactly (Spans c.args.token t) p.starts.items z) (sym c.as_slice-ends.ensures.value) given) in
    subst (λ (m : ℕ). AreWithin m ends) (sym c.len-n.ensures.value) (ends_within c.args.token t starts ends are)

pub returns-then-not-reaches : goal.returns-then-not-reaches
returns-then-not-reaches c =
    let t = c.args.t.now in
    let starts = c.as_slice-starts.result.now in
    let ends = c.as_slice-ends.result.now in
    let p = c.pieces-pieces.result.now in
    let given = subst (λ (v : SpansView). ArePieces c.args.token v.text p) c.requires.spans c.pieces-pieces.ensures in
    let are : AreExactly (Spans c.args.token t) starts ends =
    subst (λ z. AreExactly (Spans c.args.token t) z ends) (sym c.as_slice-starts.ensures.value)
    (subst (λ z. AreExactly (Spans c.args.token t) p.starts.items z) (sym c.as_slice-ends.ensures.value) given) in
    grows_not (RightAt c.args.token_set t) (length t) (c.args.token ∷ c.args.e.now.seq) c.args.out.now.items
    (right_never c.args.token_set t c.args.token c.args.e.now.seq c.args.e.now.at ends starts c.requires.entry (hops_back c.args.token t starts ends are) (iff_false c.reaches.ensures c.if-not-reaches.true))

pub reached-requires-clause-paired : goal.reached-requires-clause-paired
reached-requires-clause-paired c =
    let t = c.args.t.now in
    let starts = c.as_slice-starts.result.now in
    let ends = c.as_slice-ends.result.now in
    let p = c.pieces-pieces.result.now in
    let given = subst (λ (v : SpansView). ArePieces c.args.token v.text p) c.requires.spans c.pieces-pieces.ensures in
    let are : AreExactly (Spans c.args.token t) starts ends =
    subst (λ z. AreExactly (Spans c.args.token t) z ends) (sym c.as_slice-starts.ensures.value)
    (subst (λ z. AreExactly (Spans c.args.token t) p.starts.items z) (sym c.as_slice-ends.ensures.value) given) in
    sym are.paired

pub reached-requires-clause-from : goal.reached-requires-clause-from
reached-requires-clause-from c =
    let t = c.args.t.now in
    let starts = c.as_slice-starts.result.now in
    let ends = c.as_slice-ends.result.now in
    let p = c.pieces-pieces.result.now in
    let given = subst (λ (v : SpansView). ArePieces c.args.token v.text p) c.requires.spans c.pieces-pieces.ensures in
    let are : AreExactly (Spans c.args.token t) starts ends =
    subst (λ z. AreExactly (Spans c.args.token t) z ends) (sym c.as_slice-starts.ensures.value)
    (subst (λ z. AreExactly (Spans c.args.token t) p.starts.items z) (sym c.as_slice-ends.ensures.value) given) in
    subst (λ (m : ℕ). AreWithin m ends) (sym c.len-n.ensures.value) (ends_within c.args.token t starts ends are)

pub reached-requires-clause-to : goal.reached-requires-clause-to
reached-requires-clause-to c =
    let t = c.args.t.now in
    let starts = c.as_slice-starts.result.now in
    let ends = c.as_slice-ends.result.now in
    let p = c.pieces-pieces.result.now in
    let given = subst (λ (v : SpansView). ArePieces c.args.token v.text p) c.requires.spans c.pieces-pieces.ensures in
    let are : AreExactly (Spans c.args.token t) starts ends =
    subst (λ z. AreExactly (Spans c.args.token t) z ends) (sym c.as_slice-starts.ensures.value)
    (subst (λ z. AreExactly (Spans c.args.token t) p.starts.items z) (sym c.as_slice-ends.ensures.value) given) in
    subst (λ (m : ℕ). AreWithin m starts) (sym c.len-n.ensures.value) (starts_within c.args.token t starts ends are)

pub returns : goal.returns
returns c =
    let t = c.args.t.now in
    let starts = c.as_slice-starts.result.now in
    let ends = c.as_slice-ends.result.now in
    let p = c.pieces-pieces.result.now in
    let given = subst (λ (v : SpansView). ArePieces c.args.token v.text p) c.requires.spans c.pieces-pieces.ensures in
    let are : AreExactly (Spans c.args.token t) starts ends =
    subst (λ z. AreExactly (Spans c.args.token t) z ends) (sym c.as_slice-starts.ensures.value)
    (subst (λ z. AreExactly (Spans c.args.token t) p.starts.items z) (sym c.as_slice-ends.ensures.value) given) in
    let e : Entry = record { seq = c.preceded-seq.result; at = c.in_ok-at.at } in
    let may = c.may_begin.ensures.0 c.if-not-may_begin.false in
    let there = subst (λ (m : ℕ). AreMarks (Reached c.args.e.now.at ends starts) m c.in_ok-at.at) c.len-n.ensures.value c.in_ok-at.ensures in
    let marks = right_marks c.args.token_set t c.args.token c.args.e.now.seq c.args.e.now.at ends starts c.requires.entry (hops_back c.args.token t starts ends are) may c.requires.token c.in_ok-at.at there in
    on_ok c.push_entry.result (c.push_entry.new.out.items ≡ c.args.out.now.items ++ e ∷ []) (AddsEntries (RightAt c.args.token_set t) (length t) c.args.out.now.items c.push_entry.new.out.items (IsOnly (c.args.token ∷ c.args.e.now.seq)))
    (λ h. grows_one (RightAt c.args.token_set t) (length t) (c.args.token ∷ c.args.e.now.seq) e c.args.out.now.items c.push_entry.new.out.items h c.preceded-seq.ensures marks)
    c.push_entry.ensures
