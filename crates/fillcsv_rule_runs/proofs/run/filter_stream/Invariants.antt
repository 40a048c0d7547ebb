use Rattle.fillcsv_rule_runs.proofs.run.filter_stream.Given as goal

abbrev pub ghosts-filter_from : goal.ghosts-filter_from
ghosts-filter_from g a = record { before = g.S.Source.faults a.source.source; whole = g.S.Source.whole a.source.source }
