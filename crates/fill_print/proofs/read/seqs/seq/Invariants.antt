use Rattle.std.proofs.Common.{◌+◌, ◌≤◌, length}
use Rattle.fill_print.specs.Seqs.{AtStart, Later, TokenSeq}
use Rattle.fill_print.proofs.Chains.{Leads}
use Rattle.fill_print.specs.Tokens.{tokens_of}
use Rattle.fill_print.proofs.read.seqs.seq.Given as goal

abbrev pub invariant-loop-next : goal.invariant-loop-next
invariant-loop-next l = record {
  read : Leads (TokenSeq (tokens_of l.notation) l.starts l.ends (AtStart l.room l.may_be_empty)) (TokenSeq (tokens_of l.notation) l.starts l.ends (Later l.left)) l.tokens l.bytes l.rest;
  few : length l.tokens + l.left ≤ 3;
}

abbrev pub decreases-loop-next : goal.decreases-loop-next
decreases-loop-next l = length l.rest
