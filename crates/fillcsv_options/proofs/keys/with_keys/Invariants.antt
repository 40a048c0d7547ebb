use Rattle.std.proofs.Common.{◌≡◌, drop, map}
use Rattle.fillcsv_options.specs.Words.{added, key_in, lookup_data}
use Rattle.fillcsv_options.proofs.keys.with_keys.Given as goal

-- what there is so far, and the keys of the words that are left
abbrev pub invariant-loop-word : goal.invariant-loop-word
invariant-loop-word l =
    added key_in (map lookup_data l.lookups.items) (map (λ w. w.now) (drop l.word-index l.words)) ≡ added key_in (map lookup_data l.fn.tables.items) (map (λ w. w.now) l.words)
