use Rattle.std.proofs.Common.{◌≡◌, ℕ, ◌<◌, ◌≤◌, inl, inr, List, length, get_or, ap, arith, false, true}
use Rattle.std.proofs.lemmas.Bool.{cases_order, cases_lt}
use Rattle.std.proofs.lemmas.Option.{get_or_from_slice_get}
use Rattle.std.proofs.lemmas.Result.{MatchResult-at_err}
use Rattle.std.proofs.lemmas.List.Sorted.{searched}
use Rattle.fill_text.proofs.ListReads.{read_contains}
use Rattle.fill_guard.proofs.pieces.stands_in.Goals as goal

pub returns-in-Err : goal.returns-in-Err
returns-in-Err c =
    let ks : List ℕ = c.args.ks.now in
    let k : ℕ = c.args.k in
    let found = searched ks k c.binary_search.result c.binary_search.ensures.position
    (λ i j le w. elim (cases_order i j) [
      | inl e ↦ (let f : get_or ks i 0 ≡ get_or ks j 0 = ap (λ z. get_or ks z 0) e in omega arith)
      | inr o ↦ elim o [ inl l ↦ (let u = c.requires i j 0 l w in omega arith) | inr g ↦ absurd (omega arith) ]
    ]) in
    let past = MatchResult-at_err (λ i. (i < length ks) × (get_or ks i 0 ≡ k)) (λ i. (i ≤ length ks) × ((j : ℕ) → j < i → get_or ks j 0 < k) × ((j : ℕ) → i ≤ j → j < length ks → k < get_or ks j 0))
    c.in-Err.field-0 c.in-Err.is found in (
      λ b. absurd (let f : false ≡ true = b in cc),
      λ h. absurd (
          let p = read_contains ks k h in
          let e : get_or ks p.0 0 ≡ k = get_or_from_slice_get ks p.0 k 0 p.2 in
          elim (cases_lt p.0 c.in-Err.field-0) [
            | inl l ↦ (let u = past.1 p.0 l in omega arith)
            | inr g ↦ (let u = past.2 p.0 g p.1 in omega arith)
          ]),
    )
