use Rattle.std.proofs.Common.{arith, length, refl}
use Rattle.std.proofs.lemmas.Option.{slice_get_read}
use Rattle.fill_text.proofs.ListReads.{contains_read}
use Rattle.fill_guard.proofs.CandidateLaws.{seqs_more, seqs_all}
use Rattle.fill_guard.proofs.candidates.keep_sequences.Goals as goal

pub keep_sequence-requires : goal.keep_sequence-requires
keep_sequence-requires c =
    let seqs = c.args.seqs.now in
    let tested = (c.requires.seqs.exact c.index-seqs-i.result).0 (contains_read seqs c.loop-i.i c.index-seqs-i.result
    (slice_get_read seqs (length seqs) c.loop-i.i c.index-seqs-i.result refl (omega arith) c.index-seqs-i.is)) in
    record { some = tested.some; short = tested.few; few = c.requires.few }

pub loop-i-preserved : goal.loop-i-preserved
loop-i-preserved c = λ sheet inside outside in_cells out_cells.
    let seqs = c.args.seqs.now in
    seqs_more sheet inside outside c.args.token_set c.args.column seqs c.loop-i.i c.index-seqs-i.result c.args.candidates.now.items c.loop-i.candidates.items c.keep_sequence.new.candidates.items c.requires.seqs
    (slice_get_read seqs (length seqs) c.loop-i.i c.index-seqs-i.result refl (omega arith) c.index-seqs-i.is)
    (c.loop-i.invariant sheet inside outside in_cells out_cells) (c.in_ok-keep_sequence.ensures sheet inside outside in_cells out_cells)

pub returns : goal.returns
returns c = λ sheet inside outside in_cells out_cells.
    seqs_all sheet inside outside c.args.token_set c.args.column c.args.seqs.now c.loop-i.i c.args.candidates.now.items c.loop-i.candidates.items c.requires.seqs (omega arith)
    (c.loop-i.invariant sheet inside outside in_cells out_cells)
