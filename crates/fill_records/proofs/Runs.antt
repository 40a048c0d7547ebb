-- How reads of one record after another give the records of a text.
use Rattle.std.proofs.Common.{◌≡◌, ℕ, zero, suc, ◌+◌, ◌<◌, ◌≤◌, List, [], ◌∷◌, ◌++◌, Bool, true, false, length, take, Option, None, Some, refl, sym, ap, ◌∙◌, arith, append_assoc, append-nil, length-append}
use Rattle.std.proofs.Math.Seq.{take-append_seam}
use Rattle.std.proofs.lemmas.List.{take_all}
use Rattle.std.specs.Prelude.{if◌then◌else◌}
use Rattle.csv.specs.Machine.{Read, next_record, step, is_end, fields_after, field_after, ends_at_end}
use Rattle.csv.specs.declared.error.ErrorKind.{ErrorKind}
use Rattle.csv.specs.declared.error.ErrorKind.TheVariants as kind
use Rattle.csv.specs.Reading.{ExplainsRead, ReadRecord, Reached, source_of, records_from, default_config, strip_bom}
use Rattle.csv.specs.declared.reader.Reader.{Reader}
use Rattle.csv.specs.declared.parser.Config.{Config}
use Rattle.csv.specs.declared.parser.State.{State}
use Rattle.csv.specs.declared.parser.State.TheVariants as st
use Rattle.csv.proofs.ReadFacts.{rows-more, rows-end}
use Rattle.fill_records.specs.Errors.{IsOfMemory}
use Rattle.fill_records.specs.Records.{records_of}

-- a read that ends here, or else one that ends later, leaves at most `most` bytes
either_leaves : (b : Bool) (here p : Read) (later : Option Read) (most : ℕ) → (if b then Some here else later) ≡ Some p → length here.2 ≤ most → (later ≡ Some p → length p.2 ≤ most) → length p.2 ≤ most
either_leaves true here p later most is short _ = let same : here ≡ p = cc in rw (← same) short
either_leaves false here p later most is _ short = short is

-- a read that ends with the text
pub ends_here : (b : Bool) (here p : Read) → (if b then Some here else None) ≡ Some p → here ≡ p
ends_here true here p is = cc
ends_here false here p is = cc

-- a read takes at least one byte, where there is one
pub leaves_less : (cfg : Config) (s : State) (fields : List (List ℕ)) (field : List ℕ) (c : ℕ) (rest : List ℕ) (p : Read) → next_record cfg s fields field (c ∷ rest) ≡ Some p → length p.2 ≤ length rest
unfolding next_record
leaves_less cfg s fields field c [] p is =
    let fields2 = fields_after (step cfg s c).1 fields field in
    let field2 = field_after (step cfg s c).1 c field in
    either_leaves (is_end (step cfg s c).1) (fields2, (step cfg s c).0, []) p
    (if ends_at_end (step cfg s c).0 then Some (fields2 ++ (field2 ∷ []), st.StartRecord, []) else None)
    0 is (omega arith) (λ later. let same : (fields2 ++ (field2 ∷ []), st.StartRecord, []) ≡ p = ends_here _ _ _ later in rw (← same) (omega arith))
leaves_less cfg s fields field c (d ∷ rest) p is =
    let fields2 = fields_after (step cfg s c).1 fields field in
    let field2 = field_after (step cfg s c).1 c field in
    either_leaves (is_end (step cfg s c).1) (fields2, (step cfg s c).0, d ∷ rest) p
    (next_record cfg (step cfg s c).0 fields2 field2 (d ∷ rest)) (length (d ∷ rest)) is (omega arith)
    (λ later. let less : length p.2 ≤ length rest = leaves_less cfg (step cfg s c).0 fields2 field2 d rest p later in omega arith)

-- this number of reads takes a text whole from a state: one for each byte and one more, or none at its end
pub data Enough : ℕ → State → List ℕ → Type 0 where
  bytes_left : {reads : ℕ} {s : State} {xs : List ℕ} → length xs < reads → Enough reads s xs
  at_end : {reads : ℕ} → Enough reads st.StartRecord []

none_at_end : (p : Read) → next_record default_config st.StartRecord [] [] [] ≡ Some p → ⊥
unfolding next_record
none_at_end p is = cc

enough_after_last : (s : State) (reads : ℕ) (p : Read) → next_record default_config s [] [] [] ≡ Some p → Enough reads p.1 p.2
unfolding next_record
enough_after_last s reads p is = let same = ends_here (ends_at_end s) ([] ∷ [], st.StartRecord, []) p is in rw (← same) at_end

enough_after : (reads : ℕ) (s : State) (xs : List ℕ) (p : Read) → length xs < suc reads → next_record default_config s [] [] xs ≡ Some p → Enough reads p.1 p.2
enough_after reads s [] p lt is = enough_after_last s reads p is
enough_after reads s (c ∷ rest) p lt is = let less = leaves_less default_config s [] [] c rest p is in bytes_left (omega arith)

-- the record that is read next is the first of the records from here on
records_from-more : (reads : ℕ) (s : State) (xs : List ℕ) (fields : List (List ℕ)) (s2 : State) (ys : List ℕ) → Enough reads s xs → Reached default_config s xs (fields ∷ []) s2 ys
    → (fewer : ℕ) × (records_from default_config reads s xs ≡ fields ∷ records_from default_config fewer s2 ys) × Enough fewer s2 ys
unfolding Reached records_from
records_from-more zero s xs fields s2 ys (bytes_left lt) read = absurd (omega (arith, lt))
records_from-more (suc reads) s xs fields s2 ys (bytes_left lt) read =
    (reads, rw (read.1, read.2, ← read.3.0, ← read.3.1) refl, rw (← read.3.0, ← read.3.1) (enough_after reads s xs read.0 lt read.1))
records_from-more reads st.StartRecord [] fields s2 ys at_end read = absurd (none_at_end read.0 read.1)

-- where nothing more is read, no record is left
records_from-end : (reads : ℕ) (s : State) (xs : List ℕ) → next_record default_config s [] [] xs ≡ None → records_from default_config reads s xs ≡ []
unfolding records_from
records_from-end zero s xs is = refl
records_from-end (suc reads) s xs is = rw is refl

-- the first n records of a text are these, and the others are read from this state and source on
pub record Reading (bytes : List ℕ) (done : List (List (List ℕ))) (n : ℕ) (s : State) (source : Option (List ℕ)) : Type 0 where
  pub left : List ℕ
  pub reads : ℕ
  pub known : source ≡ Some left
  pub enough : Enough reads s left
  pub all : records_of bytes ≡ done ++ records_from default_config reads s left
  pub count : length done ≡ n

-- nothing is read at first
pub Reading-start : (bytes : List ℕ) → Reading bytes [] 0 st.StartRecord (Some (strip_bom bytes))
unfolding records_of
Reading-start bytes = record {
  left = strip_bom bytes;
  reads = length (strip_bom bytes) + 1;
  known = refl;
  enough = bytes_left (omega arith);
  all = refl;
  count = refl;
}

-- one more record is read
pub Reading-more : {R : Type 0} (rem : R → Option (List ℕ)) (a b : Reader R) (fields : List (List ℕ)) (bytes : List ℕ) (done : List (List (List ℕ))) (n : ℕ)
    → a.config ≡ default_config → Reading bytes done n a.state (source_of rem a) → ReadRecord rem a b true fields
    → Reading bytes (done ++ fields ∷ []) (n + 1) b.state (source_of rem b)
unfolding Reached
Reading-more rem a b fields bytes done n config here read =
    let start : Reached default_config a.state here.left [] a.state here.left = (refl, refl) in
    let next = rows-more rem a b fields default_config a.state here.left here.left [] config here.known start read in
    let later = records_from-more here.reads a.state here.left fields b.state next.0 here.enough next.2 in
    record {
      left = next.0;
      reads = later.0;
      known = next.1;
      enough = later.2;
      all = here.all ∙ ap (λ (x : List (List (List ℕ))). done ++ x) later.1 ∙ sym (append_assoc done (fields ∷ []) (records_from default_config later.0 b.state next.0));
      count = length-append done (fields ∷ []) ∙ ap (λ m. m + 1) here.count;
    }

-- where nothing more is read, all records have been
pub Reading-end : {R : Type 0} (rem : R → Option (List ℕ)) (a b : Reader R) (fields : List (List ℕ)) (bytes : List ℕ) (done : List (List (List ℕ))) (n most : ℕ)
    → a.config ≡ default_config → Reading bytes done n a.state (source_of rem a) → n ≤ most → ReadRecord rem a b false fields → done ≡ take most (records_of bytes)
Reading-end rem a b fields bytes done n most config here few read =
    let none = records_from-end here.reads a.state here.left (rows-end rem a b fields default_config here.left config here.known read) in
    let whole : records_of bytes ≡ done = here.all ∙ ap (λ (x : List (List (List ℕ))). done ++ x) none ∙ append-nil done in
    let short : length done ≤ most = omega (arith, here.count) in
    rw whole (sym (take_all most done short))

-- the first n records that are read are the first n of all
pub Reading-full : (bytes : List ℕ) (done : List (List (List ℕ))) (n : ℕ) (s : State) (source : Option (List ℕ)) → Reading bytes done n s source → done ≡ take n (records_of bytes)
Reading-full bytes done n s source here =
    rw (here.all, ← here.count) (sym (take-append_seam done (records_from default_config here.reads s here.left)))

-- where records may differ in length, a read of bytes fails for memory or its source alone
pub memory_alone : {R : Type 0} (rem : R → Option (List ℕ)) (a b : Reader R) (k : ErrorKind) → a.flexible ≡ true → ExplainsRead rem a b false k → IsOfMemory k
memory_alone rem a b (kind.Io e) flexible why = tt
memory_alone rem a b kind.OutOfMemory flexible why = tt
memory_alone rem a b (kind.UnequalLengths pos expected len) flexible why = let not : a.flexible ≡ false = why.0 in cc
memory_alone rem a b (kind.Utf8 pos err) flexible why = let not : false ≡ true = why.0 in cc
memory_alone rem a b (kind.Serialize text) flexible why = why
memory_alone rem a b (kind.Deserialize pos err) flexible why = why
