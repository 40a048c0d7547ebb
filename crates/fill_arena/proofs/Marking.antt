-- Marks of what is named, and passes that spread them.
use Rattle.std.proofs.Common.{◌≡◌, ℕ, zero, suc, ◌+◌, ◌<◌, ◌≤◌, ◌⊎◌, inl, inr, List, [], ◌∷◌, ◌++◌, length, Bool, true, false, Option, Some, None, slice_get, get_or, refl, sym, ap, ◌∙◌, subst, arith, length-set}
use Rattle.std.specs.List.{fold}
use Rattle.std.specs.Option.{IfSome}
use Rattle.std.proofs.lemmas.Bool.{cases_lt, false≢true}
use Rattle.std.proofs.lemmas.Option.{get_or_from_slice_get, slice_get-get_or, slice_get_within}
use Rattle.fill_arena.specs.Contents.{In, EachIn, IsGraph}
use Rattle.fill_arena.specs.Copied.{AreNamed, IsClosure, IsMarked, Spreads, marked}
use Rattle.fill_arena.specs.Named.{Leads, Names, option_names, condition_names, source_names, atom_names, edge_names, entry_names}
use Rattle.fill_arena.specs.WellMade.{OlderAtoms, IsSourceItem, IsAtomItem, IsEntry, IsWellMade}
use Rattle.fill_arena.specs.declared.entry.AtomItem.{AtomItem}
use Rattle.fill_arena.specs.declared.entry.AtomItem.TheVariants.{Const, Whole, Sub}
use Rattle.fill_arena.specs.declared.entry.Entry.{Entry}
use Rattle.fill_arena.specs.declared.entry.Entry.TheVariants as kind
use Rattle.fill_arena.specs.declared.entry.SourceItem.{SourceItem}
use Rattle.fill_arena.specs.declared.entry.SourceItem.TheVariants.{Col, Select}
use Rattle.fill_arena.proofs.Samples.{each_nil, each_cons}
use Rattle.fill_arena.proofs.Zips.{each_flat}

-- what a read of a mark tells
pub is_marked : (ms : List Bool) (n : ℕ) → n < length ms → get_or ms n false ≡ true → IsMarked ms n
is_marked ms n h on = slice_get-get_or ms n false h ∙ ap Some on

pub not_marked : (ms : List Bool) (n : ℕ) → get_or ms n false ≡ false → ¬ (IsMarked ms n)
not_marked ms n off h = false≢true (sym off ∙ get_or_from_slice_get ms n true false h)

-- one mark more
pub one_kept : (ms : List Bool) (n k : ℕ) → IsMarked ms k → IsMarked (marked ms n) k
one_kept [] n k h = h
one_kept (m ∷ ms) zero zero h = refl
one_kept (m ∷ ms) zero (suc k) h = h
one_kept (m ∷ ms) (suc n) zero h = h
one_kept (m ∷ ms) (suc n) (suc k) h = one_kept ms n k h

pub one_here : (ms : List Bool) (n : ℕ) → n < length ms → IsMarked (marked ms n) n
one_here [] n h = absurd (omega arith)
one_here (m ∷ ms) zero h = refl
one_here (m ∷ ms) (suc n) h = one_here ms n (omega arith)

pub one_only : (ms : List Bool) (n k : ℕ) → IsMarked (marked ms n) k → IsMarked ms k ⊎ (k ≡ n)
one_only [] n k h = inl h
one_only (m ∷ ms) zero zero h = inr refl
one_only (m ∷ ms) zero (suc k) h = inl h
one_only (m ∷ ms) (suc n) zero h = inl h
one_only (m ∷ ms) (suc n) (suc k) h = elim (one_only ms n k h) [
  | inl a ↦ inl a
  | inr b ↦ inr (ap suc b)
]

-- marks for a list of numbers
pub all_kept : (ms : List Bool) (ns : List ℕ) (k : ℕ) → IsMarked ms k → IsMarked (fold marked ms ns) k
all_kept ms [] k h = h
all_kept ms (n ∷ ns) k h = all_kept (marked ms n) ns k (one_kept ms n k h)

pub all_here : (ms : List Bool) (ns : List ℕ) (i k : ℕ) → slice_get ns i ≡ Some k → k < length ms → IsMarked (fold marked ms ns) k
all_here ms [] i k e h = absurd cc
all_here ms (n ∷ ns) zero k e h =
    let same : k ≡ n = cc in
    all_kept (marked ms n) ns k (subst (λ j. IsMarked (marked ms j) k) same (one_here ms k h))
all_here ms (n ∷ ns) (suc i) k e h = all_here (marked ms n) ns i k e (subst (λ l. k < l) (sym (length-set ms n true)) h)

pub all_only : (ms : List Bool) (ns : List ℕ) (k : ℕ) → IsMarked (fold marked ms ns) k → IsMarked ms k ⊎ In k ns
all_only ms [] k h = inl h
all_only ms (n ∷ ns) k h = elim (all_only (marked ms n) ns k h) [
  | inl a ↦ elim (one_only ms n k a) [
    | inl b ↦ inl b
    | inr e ↦ inr (0, ap Some (sym e))
  ]
  | inr r ↦ inr (suc r.0, r.1)
]

-- what an entry names is older
option_older : (c : List Entry) (n : ℕ) (o : Option ℕ) → IfSome o (OlderAtoms c n) → EachIn (λ k. k < n) (option_names o)
option_older c n None h = each_nil (λ k. k < n)
option_older c n (Some s) h = each_cons (λ k. k < n) s [] h.1 (each_nil (λ k. k < n))

source_older : (c : List Entry) (n : ℕ) (x : SourceItem) → IsSourceItem c n x → EachIn (λ k. k < n) (source_names x)
source_older c n (Col m) h = each_nil (λ k. k < n)
source_older c n (Select i) h = each_flat (λ k. k < n) condition_names i.conditions (λ k x at. option_older c n x.atoms (h.older k x at))

atom_older : (c : List Entry) (n : ℕ) (x : AtomItem) → IsAtomItem c n x → EachIn (λ k. k < n) (atom_names x)
atom_older c n (Const t) h = each_nil (λ k. k < n)
atom_older c n (Whole s) h = each_cons (λ k. k < n) s [] h.1 (each_nil (λ k. k < n))
atom_older c n (Sub s p q) h =
    let P : ℕ → Type 0 = λ k. k < n in
    each_cons P s (p ∷ q ∷ []) h.0.1 (each_cons P p (q ∷ []) h.1.1 (each_cons P q [] h.2.1 (each_nil P)))

pub names_older : (c : List Entry) (n : ℕ) (e : Entry) → IsEntry c n e → EachIn (λ k. k < n) (entry_names e)
names_older c n (kind.Places places) h = each_nil (λ k. k < n)
names_older c n (kind.Sources items) h = each_flat (λ k. k < n) source_names items (λ k x at. source_older c n x (h.each k x at))
names_older c n (kind.Atoms items) h = each_flat (λ k. k < n) atom_names items (λ k x at. atom_older c n x (h.each k x at))
names_older c n (kind.Graph nodes edges) h = each_flat (λ k. k < n) edge_names edges (λ k x at. each_cons (λ k. k < n) x.atoms [] (h.each k x at).atoms.1 (each_nil (λ k. k < n)))

-- of a number that isn't marked nothing is marked
pub spreads_none : (c : List Entry) (m : ℕ) (old : List Bool) → ¬ (IsMarked old m) → Spreads c m old old
spreads_none c m old none = record {
  kept = λ n h. h;
  named = λ n h w. absurd (none h);
  only = λ n h. inl h;
}

module _ (c : List Entry) (made : IsWellMade c) where
  pub named_older : (m n : ℕ) → Names c m n → n < m
  named_older m n w = names_older c m w.0 (made m w.0 w.1) w.2.0 n w.2.1

  pub spreads_names : (m : ℕ) (e : Entry) (old : List Bool) → slice_get c m ≡ Some e → length old ≡ length c → IsMarked old m → Spreads c m old (fold marked old (entry_names e))
  spreads_names m e old at long is = record {
    kept = λ n h. all_kept old (entry_names e) n h;
    named = λ n h w.
        let lt = named_older m n w in
        let within = slice_get_within c m e at in
        let first = w.1 in
        let same : w.0 ≡ e = cc in
        let there = subst (λ x. In n (entry_names x)) same w.2 in
        all_here old (entry_names e) there.0 n there.1 (omega arith);
    only = λ n h. elim (all_only old (entry_names e) n h) [
      | inl a ↦ inl a
      | inr b ↦ inr (is, (e, at, b))
    ];
  }

leads_on : (c : List Entry) (m : ℕ) (chain : List ℕ) (k n : ℕ) → Leads c m chain k → Names c k n → Leads c m (chain ++ n ∷ []) n
leads_on c m [] k n h w = (subst (λ j. Names c j n) (sym h) w, refl)
leads_on c m (j ∷ rest) k n h w = (h.0, leads_on c j rest k n h.1 w)

-- the marks are closed for the numbers from one on
pub record IsClosedFrom (c : List Entry) (i : ℕ) (old new : List Bool) : Type 0 where
  pub kept : (n : ℕ) → IsMarked old n → IsMarked new n
  pub closed : (m n : ℕ) → i ≤ m → IsMarked new m → Names c m n → IsMarked new n
  pub led : (n : ℕ) → IsMarked new n → (m : ℕ) × (chain : List ℕ) × IsMarked old m × Leads c m chain n

pub closed_start : (c : List Entry) (i : ℕ) (old : List Bool) → length old ≡ length c → length old ≤ i → IsClosedFrom c i old old
closed_start c i old long past = record {
  kept = λ n h. h;
  closed = λ m n le is w. let within = slice_get_within old m true is in absurd (omega arith);
  led = λ n h. (n, [], h, refl);
}

pub closed_more : (c : List Entry) → IsWellMade c → (i : ℕ) (old now new : List Bool) → IsClosedFrom c (i + 1) old now → Spreads c i now new → IsClosedFrom c i old new
closed_more c made i old now new before s = record {
  kept = λ n h. s.kept n (before.kept n h);
  closed = λ m n le is w. elim (s.only m is) [
    | inl a ↦ elim (cases_lt i m) [
      | inl lt ↦ s.kept n (before.closed m n (omega arith) a w)
      | inr past ↦
          let same : m ≡ i = omega arith in
          s.named n (subst (IsMarked now) same a) (subst (λ j. Names c j n) same w)
    ]
    | inr b ↦ let lt = named_older c made i m b.1 in absurd (omega arith)
  ];
  led = λ n h. elim (s.only n h) [
    | inl a ↦ before.led n a
    | inr b ↦ let l = before.led i b.0 in (l.0, l.1 ++ n ∷ [], l.2, leads_on c l.0 l.1 i n l.3 b.1)
  ];
}

pub closed_end : (c : List Entry) (i : ℕ) (old new : List Bool) → i ≡ 0 → IsClosedFrom c i old new → IsClosure c old new
closed_end c i old new none is = record {
  kept = is.kept;
  closed = λ m n. is.closed m n (omega arith);
  led = is.led;
}

-- the closed marks of listed numbers, where nothing was marked
pub are_named : (c : List Entry) (listed : List ℕ) (none first new : List Bool) → EachIn (IsGraph c) listed → length none ≡ length c → length new ≡ length c → ((n : ℕ) → ¬ (IsMarked none n))
    → first ≡ fold marked none listed → IsClosure c first new → AreNamed c listed new
are_named c listed none first new live long same off is closure = record {
  long = same;
  roots = λ n there.
      let g = live there.0 n there.1 in
      let within = slice_get_within c n (kind.Graph g.0 g.1) g.2 in
      closure.kept n (subst (λ l. IsMarked l n) (sym is) (all_here none listed there.0 n there.1 (omega arith)));
  closed = closure.closed;
  named = λ n h.
      let l = closure.led n h in
      elim (all_only none listed l.0 (subst (λ ms. IsMarked ms l.0) is l.2)) [
        | inl a ↦ absurd (off l.0 a)
        | inr b ↦ (l.0, l.1, b, l.3)
      ];
}
