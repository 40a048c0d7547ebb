use Rattle.std.proofs.Common.{◌≡◌, [], drop, map}
use Rattle.fillcsv_options.specs.Words.{added, lookup_data, table_in}
use Rattle.fillcsv_options.proofs.tables.tables_of.Given as goal

-- the tables so far, and those of the words that are left
abbrev pub invariant-loop-word : goal.invariant-loop-word
invariant-loop-word l =
    added table_in (map lookup_data l.tables.items) (map (λ w. w.now) (drop l.word-index l.words)) ≡ added table_in [] (map (λ w. w.now) l.words)
