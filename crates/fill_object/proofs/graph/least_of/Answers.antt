use Rattle.fill_object.proofs.graph.least_of.Goals as goal

pub least_rest-requires-clause-findings : goal.least_rest-requires-clause-findings
least_rest-requires-clause-findings c = record { memo = c.new-memo.ensures c.args.search.now.on; rests = c.in_ok-rests.ensures c.args.search.now }
