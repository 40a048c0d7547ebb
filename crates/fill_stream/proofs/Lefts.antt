-- How a read of one record after another takes the records of a text.
use Rattle.std.proofs.Common.{◌≡◌, ℕ, zero, suc, ◌+◌, List, [], ◌∷◌, true, false, length, Option, None, Some, refl, sym, ap, ◌∙◌, arith}
use Rattle.std.specs.Prelude.{option_map}
use Rattle.csv.specs.Machine.{Read, next_record, ends_at_end}
use Rattle.csv.specs.Reading.{ReadRecord, Reached, records_from, records_next, source_of, default_config, strip_bom}
use Rattle.csv.specs.declared.reader.Reader.{Reader}
use Rattle.csv.specs.declared.parser.State.{State}
use Rattle.csv.specs.declared.parser.State.TheVariants as st
use Rattle.csv.proofs.ReadFacts.{rows-more, rows-end}
use Rattle.fill_records.specs.Records.{records_of}
use Rattle.fill_records.proofs.Runs.{Enough, bytes_left, at_end, ends_here, leaves_less}
use Rattle.fill_stream.specs.Records.{IsDone, Rows, Took, records_left}

none_at_end : (p : Read) → next_record default_config st.StartRecord [] [] [] ≡ Some p → ⊥
unfolding next_record
none_at_end p is = cc

enough_after_last : (s : State) (reads : ℕ) (p : Read) → next_record default_config s [] [] [] ≡ Some p → Enough reads p.1 p.2
unfolding next_record
enough_after_last s reads p is = let same = ends_here (ends_at_end s) ([] ∷ [], st.StartRecord, []) p is in rw (← same) at_end

enough_after : (reads : ℕ) (s : State) (xs : List ℕ) (p : Read) → Enough (suc reads) s xs → next_record default_config s [] [] xs ≡ Some p → Enough reads p.1 p.2
enough_after reads s [] p (bytes_left lt) is = enough_after_last s reads p is
enough_after reads s (c ∷ rest) p (bytes_left lt) is = let less = leaves_less default_config s [] [] c rest p is in bytes_left (omega arith)
enough_after reads st.StartRecord [] p at_end is = absurd (none_at_end p is)

-- the record that is read next is the first of the records from here on
records_from-more : (reads : ℕ) (s : State) (xs : List ℕ) (fields : List (List ℕ)) (s2 : State) (ys : List ℕ) → Enough reads s xs → Reached default_config s xs (fields ∷ []) s2 ys
    → (fewer : ℕ) × (records_from default_config reads s xs ≡ fields ∷ records_from default_config fewer s2 ys) × Enough fewer s2 ys
unfolding Reached records_from
records_from-more zero s xs fields s2 ys (bytes_left lt) read = absurd (omega (arith, lt))
records_from-more zero st.StartRecord [] fields s2 ys at_end read = absurd (none_at_end read.0 read.1)
records_from-more (suc reads) s xs fields s2 ys enough read =
    (reads, rw (read.1, read.2, ← read.3.0, ← read.3.1) refl, rw (← read.3.0, ← read.3.1) (enough_after reads s xs read.0 enough read.1))

-- where nothing more is read, no record is left
records_from-end : (reads : ℕ) (s : State) (xs : List ℕ) → next_record default_config s [] [] xs ≡ None → records_from default_config reads s xs ≡ []
unfolding records_from
records_from-end zero s xs is = refl
records_from-end (suc reads) s xs is = rw is refl

-- no record is read at the end
none_read : next_record default_config st.StartRecord [] [] [] ≡ None
unfolding next_record
none_read = refl

none_left : (n : ℕ) → records_from default_config n st.StartRecord [] ≡ []
none_left n = records_from-end n st.StartRecord [] none_read

-- as many reads as are enough give the same records
same_reads : (m n : ℕ) (s : State) (xs : List ℕ) → Enough m s xs → Enough n s xs → records_from default_config m s xs ≡ records_from default_config n s xs
unfolding records_from
same_reads zero n s xs (bytes_left lt) h = absurd (omega (arith, lt))
same_reads zero n st.StartRecord [] at_end h = sym (none_left n)
same_reads (suc m) zero s xs g (bytes_left lt) = absurd (omega (arith, lt))
same_reads (suc m) zero st.StartRecord [] g at_end = none_left (suc m)
same_reads (suc m) (suc n) s xs g h =
    elim (next_record default_config s [] [] xs)
    as (λ o. next_record default_config s [] [] xs ≡ o → records_next (records_from default_config m) o ≡ records_next (records_from default_config n) o) [
      | None ↦ λ _. refl
      | Some p ↦ λ is. ap (λ (rest : Rows). p.0 ∷ rest) (same_reads m n p.1 p.2 (enough_after m s xs p g is) (enough_after n s xs p h is))
    ] refl

module _ {R : Type 0} (rem : R → Option (List ℕ)) (a b : Reader R) (fields : List (List ℕ)) where
  -- a read that gives a record takes the first of those that are left
  took_known : (source : Option (List ℕ)) → source_of rem a ≡ source → a.config ≡ default_config → ReadRecord rem a b true fields
      → Took (option_map (λ xs. records_from default_config (length xs + 1) a.state xs) source) (records_left rem b) fields
  unfolding Reached
  took_known None known config read = tt
  took_known (Some xs) known config read =
      let start : Reached default_config a.state xs [] a.state xs = (refl, refl) in
      let next = rows-more rem a b fields default_config a.state xs xs [] config known start read in
      let enough : Enough (length xs + 1) a.state xs = bytes_left (omega arith) in
      let later = records_from-more (length xs + 1) a.state xs fields b.state next.0 enough next.2 in
      let more : Rows = records_from default_config (length next.0 + 1) b.state next.0 in
      let all : Enough (length next.0 + 1) b.state next.0 = bytes_left (omega arith) in (
        more,
        later.1 ∙ ap (λ (rest : Rows). fields ∷ rest) (same_reads later.0 (length next.0 + 1) b.state next.0 later.2 all),
        ap (option_map (λ (ys : List ℕ). records_from default_config (length ys + 1) b.state ys)) next.1,
      )

  pub took : a.config ≡ default_config → ReadRecord rem a b true fields → Took (records_left rem a) (records_left rem b) fields
  took config read = took_known (source_of rem a) refl config read

  done_known : (source : Option (List ℕ)) → source_of rem a ≡ source → a.config ≡ default_config → ReadRecord rem a b false fields
      → IsDone (option_map (λ xs. records_from default_config (length xs + 1) a.state xs) source)
  done_known None known config read = tt
  done_known (Some xs) known config read = records_from-end (length xs + 1) a.state xs (rows-end rem a b fields default_config xs config known read)

  -- one that finds none finds the end
  pub done : a.config ≡ default_config → ReadRecord rem a b false fields → IsDone (records_left rem a)
  done config read = done_known (source_of rem a) refl config read

of_left : (o : Option (List ℕ)) → option_map (λ (xs : List ℕ). records_from default_config (length xs + 1) st.StartRecord xs) (option_map strip_bom o) ≡ option_map records_of o
unfolding records_of
of_left None = refl
of_left (Some bytes) = refl

-- the records of a text at its start
pub records_start : {R : Type 0} (rem : R → Option (List ℕ)) (a : Reader R) (left : Option (List ℕ)) → a.state ≡ st.StartRecord → source_of rem a ≡ option_map strip_bom left
    → records_left rem a ≡ option_map records_of left
records_start rem a left state source = rw (state, source) (of_left left)
