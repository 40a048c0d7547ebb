-- At these options `clap` refuses words for one kind at most.
use Rattle.std.proofs.Common.{◌≡◌, ◌≤◌, ◌+◌, ◌∙◌, ◌&&◌, ◌||◌, ℕ, Bool, not, zero, suc, true, false, refl, sym, ap, subst, arith, inl, inr, List, [], ◌∷◌, length, min, drop, Option, Some, None, is_some, nat_lt}
use Rattle.std.specs.Prelude.{◌==◌, encode_utf8, slice_get, if◌then◌else◌}
use Rattle.std.specs.Option.{option_map_or}
use Rattle.std.specs.List.{list_any}
use Rattle.clap.specs.Takes.{is_given}
use Rattle.std.specs.Str.{bytes_eq, chars}
use Rattle.clap.specs.Matches.{count_text}
use Rattle.clap.specs.Facts.{explicit_source, parser_of_value, unwrap_or_range}
use Rattle.clap.specs.ValueTests.{accepts}
use Rattle.clap.specs.Lexer.{long_of, short_of}
use Rattle.clap.specs.Walk.{Held, Row, Rule, Step, Text, Waiting, Walk, idle, option, positional, next, trailing, subcommand, value, action_of, arg_by_id, arg_by_index, arg_by_long, arg_by_short, attached_value, count_of, finished, has_row, is_empty, is_pending, most_values, nothing_held, reacted, settled, takes_several, takes_values, values_or_missing, walk, walk_from, walked, with_default, word_met}
use Rattle.clap.specs.Simple.{Shape, argument_words, built, is_simple, matches_of}
use Rattle.clap.specs.Kinds.{HasKind, IsAmong, Kinds, check_kinds, or_else, range_kinds, request_kinds, value_kinds, values_kinds}
use Rattle.clap.specs.Values.{kind_of, refused_kind}
use Rattle.clap.specs.Faults.{action_fault, bundle_fault, bundle_step_fault, check_fault, count_fault, default_fault, defaults_fault, fault_of, flag_word_fault, flags_fault, is_simple_and_free, level_fault, long_fault, option_fault, other_fault, positional_fault, react_fault, repeat_fault, set_fault, settle_fault, short_fault, step_fault, stray_fault, turn_fault, use_fault, values_fault, walk_fault, word_fault}
use Rattle.clap.specs.declared.builder.value_parser.ValueParser.{ValueParser}
use Rattle.clap.specs.declared.builder.action.ArgAction.{ArgAction}
use Rattle.clap.specs.declared.builder.action.ArgAction.TheVariants as action
use Rattle.clap.specs.declared.error.kind.ErrorKind.{ErrorKind}
use Rattle.clap.specs.declared.error.kind.ErrorKind.TheVariants.{OutOfMemory}
use Rattle.clap.specs.declared.error.Error.{Error}
use Rattle.clap.proofs.FaultLemmas.{leaf_fault}
use Rattle.fillcsv_options.specs.declared.refusal.Refusal.{Refusal}
use Rattle.fillcsv_options.specs.declared.refusal.Refusal.TheVariants.{NoMemory}
use Rattle.fillcsv_options.specs.Options.{app, run_app}
use Rattle.fillcsv_options.specs.Words.{IsRefusedBy, Meaning, asked_in, is_rule_word, meaning_of, meaning_of_kind, meaning_of_rows, run_meaning, run_of_rows, sheet_meaning}

pub app_is_simple : is_simple app ≡ true
unfolding app
app_is_simple = refl

pub app_is_simple_and_free : is_simple_and_free app ≡ true
unfolding app
app_is_simple_and_free = refl

pub run_is_simple : is_simple run_app ≡ true
unfolding run_app
run_is_simple = refl

pub run_is_simple_and_free : is_simple_and_free run_app ≡ true
unfolding run_app
run_is_simple_and_free = refl

-- ---- at most one kind

record OneAtMost (kinds : Kinds) : Type 0 where
  few : length kinds ≤ 1

nothing : OneAtMost []
nothing = record { few = omega arith }

one : (k : ErrorKind) → OneAtMost (k ∷ [])
one k = record { few = omega arith }

either : (a b : Kinds) → OneAtMost a → OneAtMost b → OneAtMost (or_else a b)
either [] b ha hb = hb
either (k ∷ ks) b ha hb = ha

by_test : (t : Bool) (a b : Kinds) → OneAtMost a → OneAtMost b → OneAtMost (if t then a else b)
by_test true a b ha hb = ha
by_test false a b ha hb = hb

by_option : {X : Type 0} (f : X → Kinds) (o : Option X) (d : Kinds) → ((x : X) → OneAtMost (f x)) → OneAtMost d → OneAtMost (option_map_or f o d)
by_option f None d h hd = hd
by_option f (Some x) d h hd = h x

-- ---- one use of an argument

value_one : (i : Bool) (p : ValueParser) (text : Text) → OneAtMost (value_kinds i p text)
value_one i p text = by_test (accepts i p text) [] (refused_kind p ∷ []) nothing (one (refused_kind p))

values_one : (i : Bool) (p : ValueParser) (texts : List Text) → OneAtMost (values_kinds i p texts)
values_one i p [] = nothing
values_one i p (v ∷ vs) = either (value_kinds i p v) (values_kinds i p vs) (value_one i p v) (values_one i p vs)

range_one : (least most n : ℕ) → OneAtMost (range_kinds least most n)
range_one least most n = by_test (nat_lt 0 least && n == 0) _ _ (one _) (by_test (least == most) _ _
    (by_test (least == n) _ _ nothing (one _)) (by_test (nat_lt n least) _ _ (one _) (by_test (nat_lt most n) _ _ (one _) nothing)))

request_one : (x : ArgAction) → OneAtMost (request_kinds x)
request_one action.Set = nothing
request_one action.Append = nothing
request_one action.SetTrue = nothing
request_one action.SetFalse = nothing
request_one action.Count = nothing
request_one action.Help = one _
request_one action.HelpShort = one _
request_one action.HelpLong = one _
request_one action.Version = one _

given_one : (a : Rule) (values : List Text) → OneAtMost (values_fault a values)
given_one a values = values_one a.ignore_case (parser_of_value a.parser) values

set_one : (again : Bool) (a : Rule) (values : List Text) (rows : List Row) → OneAtMost (set_fault again a values rows)
set_one again a values rows =
    either (repeat_fault again a.id rows) (values_fault a values) (by_test (has_row a.id rows && not again) _ _ (one _) nothing) (given_one a values)

count_one : (a : Rule) (values : List Text) (rows : List Row) → OneAtMost (count_fault a values rows)
count_one a [] rows = value_one a.ignore_case (parser_of_value a.parser) (count_text (min (count_of a.id rows + 1) 255))
count_one a (v ∷ vs) rows = given_one a (v ∷ vs)

action_one : (x : ArgAction) (again : Bool) (a : Rule) (values : List Text) (rows : List Row) → OneAtMost (action_fault x again a values rows)
action_one action.Set again a values rows = set_one again a values rows
action_one action.SetTrue again a values rows = set_one again a values rows
action_one action.SetFalse again a values rows = set_one again a values rows
action_one action.Append again a values rows = given_one a values
action_one action.Count again a values rows = count_one a values rows
action_one action.Help again a values rows = one _
action_one action.HelpShort again a values rows = one _
action_one action.HelpLong again a values rows = one _
action_one action.Version again a values rows = one _

use_one : (again : Bool) (a : Rule) (values : List Text) (rows : List Row) → OneAtMost (use_fault again a values rows)
use_one again a values rows = either _ _ (range_one (unwrap_or_range a.range).start_inclusive (most_values a) (length values))
    (action_one (action_of a) again a (values_or_missing a values) rows)

-- ---- the walk

module _ (c : List Rule) (again : Bool) where
  settle_one : (h : Held) → OneAtMost (settle_fault c again h)
  settle_one h = by_option (λ p. option_map_or (λ a. use_fault again a p.1 h.rows) (arg_by_id c p.0) []) h.pending []
      (λ p. by_option (λ a. use_fault again a p.1 h.rows) (arg_by_id c p.0) [] (λ a. use_one again a p.1 h.rows) nothing) nothing

  react_one : (a : Rule) (values : List Text) (h : Held) → OneAtMost (react_fault c again a values h)
  react_one a values h =
      either (settle_fault c again h) (use_fault again a values (settled c h).rows) (settle_one h) (use_one again a values (settled c h).rows)

  option_one : (a : Rule) (v : Option Text) (h : Held) → OneAtMost (option_fault c again a v h)
  option_one a None h = settle_one h
  option_one a (Some v) h = react_one a (v ∷ []) h

  long_one : (a : Option Rule) (v : Option Text) (h : Held) → OneAtMost (long_fault c again a v h)
  long_one None v h = one _
  long_one (Some a) v h = by_test (takes_values a) _ _ (option_one a v h) (by_test (is_some v) _ _ (one _) (react_one a [] h))

  short_one : (a : Option Rule) (rest : Text) (h : Held) (more : Held → Kinds) → ((g : Held) → OneAtMost (more g)) → OneAtMost (short_fault c again a rest h more)
  short_one None rest h more few = one _
  short_one (Some a) rest h more few = by_test (takes_values a) _ _ (option_one a (attached_value rest) h)
      (either (react_fault c again a [] h) (more (reacted c a [] h)) (react_one a [] h) (few (reacted c a [] h)))

  step_of_bundle : (x : Option ℕ) (flags : Text) (skip : ℕ) (h : Held) (more : Text → ℕ → Held → Kinds) → ((t : Text) (n : ℕ) (g : Held) → OneAtMost (more t n g))
      → OneAtMost (bundle_step_fault c again x flags skip h more)
  step_of_bundle None flags skip h more few = nothing
  step_of_bundle (Some x) flags zero h more few =
      let rest = drop (length (encode_utf8 x)) flags in short_one (arg_by_short c x) rest h (more rest 0) (few rest 0)
  step_of_bundle (Some x) flags (suc skip) h more few = few (drop (length (encode_utf8 x)) flags) skip h

  flags_one : (k : ℕ) (flags : Text) (skip : ℕ) (h : Held) → OneAtMost (flags_fault c again k flags skip h)
  unfolding flags_fault
  flags_one zero flags skip h = nothing
  flags_one (suc k) flags skip h = step_of_bundle (slice_get (chars flags) 0) flags skip h (flags_fault c again k) (flags_one k)

  flag_word_one : (p : Option (Text × Option Text)) (word : Text) (h : Held) → OneAtMost (flag_word_fault c again p word h)
  flag_word_one (Some p) word h = long_one (arg_by_long c p.0) p.1 h
  flag_word_one None word h = by_option (λ flags. bundle_fault c again flags h) (short_of word) []
      (λ flags. flags_one (length flags) flags h.skip (record h { skip = 0 })) nothing

  positional_one : (a : Rule) (h : Held) → OneAtMost (positional_fault c again a h)
  positional_one a h = by_test (is_pending a h.pending && takes_several a) _ _ nothing (settle_one h)

-- a command with no subcommand
module _ (s : Shape) (leaf : s.is_leaf ≡ true) where
  other_one : (word : Text) (h : Held) → OneAtMost (other_fault s None word h)
  other_one word h = by_test (bytes_eq word (45 ∷ 45 ∷ [])) _ _ nothing (flag_word_one s.rules s.args_override_self (long_of word) word h)

  word_one : (t : Bool) (waiting : Waiting) (word : Text) (h : Held) → OneAtMost (word_fault s [] t waiting word h)
  word_one t idle word h = by_test t _ _ nothing (other_one word h)
  word_one t (option id) word h = by_test t _ _ nothing (other_one word h)
  word_one t positional word h = by_test t _ _ nothing (other_one word h)

  stray_one : OneAtMost (stray_fault s)
  stray_one = rw leaf (one _)

  step_one : (position : ℕ) (h : Held) (step : Step) → OneAtMost (step_fault s position h step)
  step_one position h value = by_option (λ a. positional_fault s.rules s.args_override_self a h) (arg_by_index s.rules position) (stray_fault s)
      (λ a. positional_one s.rules s.args_override_self a h) stray_one
  step_one position h (next waiting) = nothing
  step_one position h (trailing n) = nothing
  step_one position h (subcommand name) = nothing

  turn_one : (w : Walk) (word : Text) → OneAtMost (turn_fault s [] w word)
  turn_one w word =
      let met = word_met s.rules [] w.is_trailing w.waiting w.position word w.held in
      by_test (is_some w.stopped) _ _ nothing (either (word_fault s [] w.is_trailing w.waiting word w.held) (step_fault s w.position met.0 met.1)
      (word_one w.is_trailing w.waiting word w.held) (step_one w.position met.0 met.1))

  walk_one : (words : List Text) (w : Walk) → OneAtMost (walk_fault s [] w words)
  unfolding walk_fault
  walk_one [] w = nothing
  walk_one (word ∷ rest) w =
      either (turn_fault s [] w word) (walk_fault s [] (walked s.rules [] w word) rest) (turn_one w word) (walk_one rest (walked s.rules [] w word))

  default_one : (rows : List Row) (a : Rule) → OneAtMost (default_fault rows a)
  default_one rows a = by_test (has_row a.id rows || is_empty a.defaults) _ _ nothing
      (either (request_kinds (action_of a)) (values_fault a a.defaults) (request_one (action_of a)) (given_one a a.defaults))

  defaults_one : (rules : List Rule) (rows : List Row) → OneAtMost (defaults_fault rows rules)
  unfolding defaults_fault
  defaults_one [] rows = nothing
  defaults_one (a ∷ rest) rows =
      either (default_fault rows a) (defaults_fault (with_default rows a) rest) (default_one rows a) (defaults_one rest (with_default rows a))

  checks_one : (help sub arg : Bool) → OneAtMost (check_kinds help sub arg)
  checks_one help sub arg = by_test help _ _ (one _) (by_test sub _ _ (one _) (by_test arg _ _ (one _) nothing))

  check_one : (rows : List Row) (has : Bool) → OneAtMost (check_fault s rows has)
  check_one rows has = checks_one
      (not has && (s.arg_required_else_help && not (list_any (λ r. explicit_source r.source) rows)))
      (not has && s.subcommand_required)
      (not (s.subcommand_negates_reqs && has) && list_any (λ a. a.required && not (is_given a.id rows)) s.rules)

  level_one : (h : Held) (words : List Text) (has : Bool) → OneAtMost (level_fault s [] h words has [])
  level_one h words has =
      let last = (walk s.rules [] h words).held in
      let rest = either (defaults_fault (settled s.rules last).rows s.rules) (check_fault s (finished s.rules last) has)
      (defaults_one s.rules (settled s.rules last).rows) (check_one (finished s.rules last) has) in
      let end = either (settle_fault s.rules s.args_override_self last) _ (settle_one s.rules s.args_override_self last) rest in
      either (walk_fault s [] (walk_from h) words) _ (walk_one words (walk_from h)) end

fault_one : (words : List Text) → OneAtMost (fault_of app words)
unfolding app
fault_one words = subst OneAtMost (sym (leaf_fault (built app) nothing_held (argument_words app words) refl))
    (level_one (built app).top refl nothing_held (argument_words app words) false)

run_fault_one : (words : List Text) → OneAtMost (fault_of run_app words)
unfolding run_app
run_fault_one words = subst OneAtMost (sym (leaf_fault (built run_app) nothing_held (argument_words run_app words) refl))
    (level_one (built run_app).top refl nothing_held (argument_words run_app words) false)

-- ---- what a refusal says

among : (taken : List Row → Meaning) (k : ErrorKind) (kinds : Kinds) (rows : List Row) → OneAtMost kinds → IsAmong k kinds → meaning_of taken kinds rows ≡ meaning_of_kind k
among taken k [] rows few h = absurd h
among taken k (x ∷ []) rows few (inl e) = ap meaning_of_kind (sym e)
among taken k (x ∷ []) rows few (inr h) = absurd h
among taken k (x ∷ y ∷ rest) rows few h = let n = few.few in absurd (omega arith)

says : (taken : List Row → Meaning) (kinds : Kinds) (rows : List Row) (e : Error) (r : Refusal) → OneAtMost kinds → HasKind kinds e
    → IsRefusedBy (meaning_of_kind (kind_of e)) r → (kind_of e ≡ OutOfMemory → r ≡ NoMemory) → IsRefusedBy (meaning_of taken kinds rows) r
says taken kinds rows e r few (inl out) said memory = subst (IsRefusedBy (meaning_of taken kinds rows)) (sym (memory out)) tt
says taken kinds rows e r few (inr found) said memory = subst (λ m. IsRefusedBy m r) (sym (among taken (kind_of e) kinds rows few found)) said

means : (taken : List Row → Meaning) (kinds : Kinds) (rows found : List Row) → kinds ≡ [] → found ≡ rows → taken found ≡ meaning_of taken kinds rows
means taken kinds rows found fine are = ap taken are ∙ ap (λ k. meaning_of taken k rows) (sym fine)

pub refusal_says : (words : List Text) (e : Error) (r : Refusal) → HasKind (fault_of app words) e
    → IsRefusedBy (meaning_of_kind (kind_of e)) r → (kind_of e ≡ OutOfMemory → r ≡ NoMemory) → IsRefusedBy (sheet_meaning words) r
unfolding sheet_meaning
refusal_says words e r has said memory = says meaning_of_rows (fault_of app words) (matches_of app words) e r (fault_one words) has said memory

pub run_refusal_says : (words : List Text) (e : Error) (r : Refusal) → HasKind (fault_of run_app words) e
    → IsRefusedBy (meaning_of_kind (kind_of e)) r → (kind_of e ≡ OutOfMemory → r ≡ NoMemory) → IsRefusedBy (run_meaning words) r
unfolding run_meaning
run_refusal_says words e r has said memory = says run_of_rows (fault_of run_app words) (matches_of run_app words) e r (run_fault_one words) has said memory

pub taken_means : (words : List Text) (rows : List Row) → fault_of app words ≡ [] → rows ≡ matches_of app words → meaning_of_rows rows ≡ sheet_meaning words
unfolding sheet_meaning
taken_means words rows fine are = means meaning_of_rows (fault_of app words) (matches_of app words) rows fine are

pub run_taken_means : (words : List Text) (rows : List Row) → fault_of run_app words ≡ [] → rows ≡ matches_of run_app words → run_of_rows rows ≡ run_meaning words
unfolding run_meaning
run_taken_means words rows fine are = means run_of_rows (fault_of run_app words) (matches_of run_app words) rows fine are

-- ---- which of both the words are

pub asks_run : (words : List Text) (t : Bool) → t ≡ list_any is_rule_word words → t ≡ true → asked_in words ≡ run_meaning words
unfolding asked_in
asks_run words t is held = let test : list_any is_rule_word words ≡ true = sym is ∙ held in rw test refl

pub asks_sheet : (words : List Text) (t : Bool) → t ≡ list_any is_rule_word words → t ≡ false → asked_in words ≡ sheet_meaning words
unfolding asked_in
asks_sheet words t is held = let test : list_any is_rule_word words ≡ false = sym is ∙ held in rw test refl
