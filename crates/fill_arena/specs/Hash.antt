-- The hash of an entry: some function of its contents to numbers below 2^64, of which nothing else is used.
use Rattle.std.specs.Prelude.{ℕ, ◌+◌, ◌*◌, ◌^◌, ◌/◌, ◌%◌, ℤ, List, length, fold, Option, Some, None, zero, suc, slice_get}
use Rattle.fill_tokens.specs.Place.{magnitude, sign_number}
use Rattle.fill_tokens.specs.Token.{token_number}
use Rattle.fill_tokens.specs.declared.token.Token.{Token}
use Rattle.fill_tokens.specs.declared.place.Place.{Place}
use Rattle.fill_tokens.specs.declared.place.Place.TheVariants.{CPos, Pos}
use Rattle.fill_arena.specs.declared.entry.Entry.{Entry}
use Rattle.fill_arena.specs.declared.entry.Entry.TheVariants.{Places, Sources, Atoms, Graph}
use Rattle.fill_arena.specs.declared.entry.SourceItem.{SourceItem}
use Rattle.fill_arena.specs.declared.entry.SourceItem.TheVariants.{Col, Select}
use Rattle.fill_arena.specs.declared.entry.SelectItem.{SelectItem}
use Rattle.fill_arena.specs.declared.entry.AtomItem.{AtomItem}
use Rattle.fill_arena.specs.declared.entry.AtomItem.TheVariants.{Const, Whole, Sub}
use Rattle.fill_arena.specs.declared.entry.ConditionItem.{ConditionItem}
use Rattle.fill_arena.specs.declared.entry.Edge.{Edge}

-- the hash of what came so far, and of one number more
unfoldable pub mixed : ℕ → ℕ → ℕ
mixed hash n = ((hash * 11400714819323198485) % 2 ^ 64 + n) % 2 ^ 64

abbrev pub signed_hash : ℕ → ℤ → ℕ
signed_hash hash k = mixed (mixed hash (sign_number k)) (magnitude k)

abbrev pub token_hash : ℕ → Token → ℕ
token_hash hash t = mixed hash (token_number t)

abbrev pub seq_hash : ℕ → List Token → ℕ
seq_hash hash s = fold token_hash (mixed hash (length s)) s

abbrev pub place_hash : ℕ → Place → ℕ
place_hash hash (CPos k) = signed_hash (mixed hash 1) k
place_hash hash (Pos r s c) = signed_hash (seq_hash (seq_hash (mixed hash 2) r) s) c

abbrev pub text_hash : ℕ → List ℕ → ℕ
text_hash hash t = fold mixed (mixed hash (length t)) t

abbrev pub constant_hash : ℕ → Option (List ℕ) → ℕ
constant_hash hash None = mixed hash 0
constant_hash hash (Some t) = text_hash (mixed hash 1) t

abbrev pub number_hash : ℕ → Option ℕ → ℕ
number_hash hash None = mixed hash 0
number_hash hash (Some s) = mixed (mixed hash 1) s

abbrev pub condition_hash : ℕ → ConditionItem → ℕ
condition_hash hash i = number_hash (constant_hash hash i.constant) i.atoms

abbrev pub conditions_hash : ℕ → List ConditionItem → ℕ
conditions_hash hash is = fold condition_hash (mixed hash (length is)) is

abbrev pub select_hash : ℕ → SelectItem → ℕ
select_hash hash i = conditions_hash (mixed (mixed (mixed hash i.column) i.table) i.key) i.conditions

abbrev pub source_hash : ℕ → SourceItem → ℕ
source_hash hash (Col m) = mixed (mixed hash 1) m
source_hash hash (Select i) = select_hash (mixed hash 2) i

abbrev pub atom_hash : ℕ → AtomItem → ℕ
atom_hash hash (Const t) = text_hash (mixed hash 1) t
atom_hash hash (Whole s) = mixed (mixed hash 2) s
atom_hash hash (Sub s p q) = mixed (mixed (mixed (mixed hash 3) s) p) q

abbrev pub edge_hash : ℕ → Edge → ℕ
edge_hash hash e = mixed (mixed (mixed hash e.from) e.to) e.atoms

abbrev pub sample_hash : ℕ → Option Place → ℕ
sample_hash hash None = hash
sample_hash hash (Some p) = place_hash hash p

-- the hash of some places of a set, which are spread over it
unfoldable pub samples_hash : List Place → ℕ → ℕ
samples_hash places zero = mixed 1 (length places)
samples_hash places (suc i) = sample_hash (samples_hash places i) (slice_get places (i * (length places / 8 + 1)))

abbrev pub entry_hash : Entry → ℕ
entry_hash (Places places) = samples_hash places 8
entry_hash (Sources items) = fold source_hash 2 items
entry_hash (Atoms items) = fold atom_hash 3 items
entry_hash (Graph nodes edges) = fold edge_hash (mixed 4 nodes) edges
