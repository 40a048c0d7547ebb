-- One thing at most comes of a report's bytes.
use Rattle.std.proofs.Common.{◌≡◌, ℕ, List, [], ◌∷◌, Some, Result, Ok, Err, sym, ap, subst, ◌∙◌, arith}
use Rattle.fill_records.specs.Records.{records_of}
use Rattle.fill_tokens.specs.declared.token_set.TheConstants.TokenSet as set
use Rattle.fill_tree.specs.Switch.{SwitchTree}
use Rattle.fill_print.specs.Faults.{IsFault, IsTextOf}
use Rattle.fill_print.proofs.Whole.{one_text}
use Rattle.fill_apply.specs.Columns.{IsFirstOther}
use Rattle.fill_apply.specs.Saved.{SavedIs, SpelledIs, TextIs, columns_read, shown_text}
use Rattle.fill_apply.specs.declared.error.ApplyError.{ApplyError}
use Rattle.fill_apply.specs.declared.error.ApplyError.TheVariants as error
use Rattle.fill_apply.proofs.FirstOthers.{none_other, one_other}

one_fault : (text : List ℕ) (n m : ℕ) → IsFault set.SECOND text n → IsFault set.SECOND text m → n ≡ m
one_fault text n m h k =
    let here = k.longest n h.within h.front in
    let there = h.longest m k.within k.front in
    omega arith

one_tree : (text : List ℕ) (s t : SwitchTree) → IsTextOf set.SECOND text s → IsTextOf set.SECOND text t → s ≡ t
one_tree text s t h k = one_text set.SECOND s t h.0 k.0 (sym h.1 ∙ k.1)

-- a first column that is no input of the one tree that a text spells
other_of : (inputs text : List ℕ) (s t : SwitchTree) (c : ℕ) → IsTextOf set.SECOND text s → IsTextOf set.SECOND text t → IsFirstOther inputs (columns_read t.cases) (Some c) → IsFirstOther inputs (columns_read s.cases) (Some c)
other_of inputs text s t c h k o = subst (λ (u : SwitchTree). IsFirstOther inputs (columns_read u.cases) (Some c)) (one_tree text t s k h) o

module _ (inputs text : List ℕ) where
  spelled_one : (x y : Result SwitchTree ApplyError) → SpelledIs inputs text x → SpelledIs inputs text y → x ≡ y
  spelled_one (Ok s) (Ok t) h k = ap Ok (one_tree text s t h.0 k.0)
  spelled_one (Ok s) (Err error.NoSwitch) h k = absurd k
  spelled_one (Ok s) (Err (error.BadSwitch m)) h k = absurd (k.none s h.0)
  spelled_one (Ok s) (Err (error.NoInput d)) h k = absurd (none_other inputs (columns_read s.cases) d h.1 (other_of inputs text s k.0 d h.0 k.1 k.2))
  spelled_one (Ok s) (Err error.NoMemory) h k = absurd k
  spelled_one (Err error.NoSwitch) y h k = absurd h
  spelled_one (Err (error.BadSwitch n)) (Ok t) h k = absurd (h.none t k.0)
  spelled_one (Err (error.BadSwitch n)) (Err error.NoSwitch) h k = absurd k
  spelled_one (Err (error.BadSwitch n)) (Err (error.BadSwitch m)) h k = ap (λ at. Err (error.BadSwitch at)) (one_fault text n m h k)
  spelled_one (Err (error.BadSwitch n)) (Err (error.NoInput d)) h k = absurd (h.none k.0 k.1)
  spelled_one (Err (error.BadSwitch n)) (Err error.NoMemory) h k = absurd k
  spelled_one (Err (error.NoInput c)) (Ok t) h k = absurd (none_other inputs (columns_read t.cases) c k.1 (other_of inputs text t h.0 c k.0 h.1 h.2))
  spelled_one (Err (error.NoInput c)) (Err error.NoSwitch) h k = absurd k
  spelled_one (Err (error.NoInput c)) (Err (error.BadSwitch m)) h k = absurd (k.none h.0 h.1)
  spelled_one (Err (error.NoInput c)) (Err (error.NoInput d)) h k =
      ap (λ column. Err (error.NoInput column)) (let s = h.0 in one_other inputs (columns_read s.cases) c d h.2 (other_of inputs text h.0 k.0 d h.1 k.1 k.2))
  spelled_one (Err (error.NoInput c)) (Err error.NoMemory) h k = absurd k
  spelled_one (Err error.NoMemory) y h k = absurd h

text_one : (inputs text : List ℕ) (x y : Result SwitchTree ApplyError) → TextIs inputs text x → TextIs inputs text y → x ≡ y
text_one inputs [] x y h k = h ∙ sym k
text_one inputs (c ∷ more) x y h k = spelled_one inputs (c ∷ more) x y h k

pub saved_one : (inputs bytes : List ℕ) (x y : Result SwitchTree ApplyError) → SavedIs inputs bytes x → SavedIs inputs bytes y → x ≡ y
saved_one inputs bytes x y h k = text_one inputs (shown_text (records_of bytes)) x y h k
