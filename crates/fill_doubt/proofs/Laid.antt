-- The one text that all programs answer, with a length for each node.
use Rattle.std.proofs.Common.{◌≡◌, ℕ, ◌+◌, ◌-◌, ◌<◌, ◌≤◌, ◌⊎◌, inl, inr, ⊎_elim, List, [], ◌∷◌, ◌++◌, length, drop, set, Option, Some, None, slice_get, refl, sym, ap, ◌∙◌, subst, arith, append_assoc, length-append}
use Rattle.std.proofs.lemmas.List.{append-nil, drop_at, drop-drop, length-drop}
use Rattle.std.proofs.lemmas.Option.{slice_get_within}
use Rattle.std.proofs.lemmas.Bool.{cases_lt, cases_eq}
use Rattle.fill_arena.specs.Contents.{In, SomeIn}
use Rattle.fill_arena.specs.WellMade.{Path}
use Rattle.fill_arena.specs.declared.entry.Edge.{Edge}
use Rattle.fill_eval.specs.Piece.{piece_text}
use Rattle.fill_eval.specs.declared.piece.Piece.{Piece}
use Rattle.fill_doubt.specs.Walks.{joined, Spells, Reads, Differs, IsAt, AreLaid, Agrees, Clashes, KeepsLengths, EdgeAgrees, EdgeClashes}
use Rattle.fill_doubt.proofs.Spelling.{AreFine, reads_append, reads_edge, last_reads, lack_differs}
use Rattle.fill_doubt.proofs.Tables.{set_same, set_other}

-- the first edges' answers all stand in the text
pub record AllAgree (G : Edge → Option (List ℕ) → Type 0) (edges : List Edge) (text : List ℕ) (lengths : List (Option ℕ)) (n : ℕ) : Type 0 where
  pub agree : (k : ℕ) (e : Edge) → k < n → slice_get edges k ≡ Some e → EdgeAgrees G text lengths e

is_at_same : (lengths : List (Option ℕ)) (n a b : ℕ) → IsAt lengths n a → IsAt lengths n b → a ≡ b
is_at_same lengths n a b h g = let e : Some (Some a) ≡ Some (Some b) = sym h ∙ g in cc

nil_length : (r : List ℕ) → length r ≡ 0 → r ≡ []
nil_length [] h = refl
nil_length (x ∷ r) h = absurd (omega arith)

module _ (G : Edge → Option (List ℕ) → Type 0) (edges : List Edge) (text : List ℕ) (lengths : List (Option ℕ)) where
  module _ (nodes : ℕ) (fine : AreFine G nodes edges) (one : Reads G edges 0 (nodes - 1) (Some text)) (laid : AreLaid G edges text lengths) where
    -- a text that does not stand in the one answer gives another answer
    clash_differs : (e : Edge) (t : List ℕ) → In e edges → G e (Some t) → Clashes text lengths e.from e.to t → Differs G edges (nodes - 1)
    clash_differs e t i j c =
        let l = laid.laid e.from c.start c.at in
        let u = l.0 in
        let to = reads_append G edges 0 e.from e.to (Some u) (Some t) l.4 (reads_edge G edges e (Some t) i j) in
        let b = last_reads G edges nodes fine e.to (fine.within i.0 e i.1) in
        go b.0 b.1 l.0 l.1 l.2 l.3 to
      where
        go : (v : Option (List ℕ)) → Reads G edges e.to (nodes - 1) v → (u r : List ℕ) → text ≡ u ++ r → length u ≡ c.start → Reads G edges 0 e.to (Some (u ++ t)) → Differs G edges (nodes - 1)
        go None on u r parts long to = (Some text, None, one, reads_append G edges 0 e.to (nodes - 1) (Some (u ++ t)) None to on, λ same. cc)
        go (Some v) on u r parts long to =
            let here = reads_append G edges 0 e.to (nodes - 1) (Some (u ++ t)) (Some v) to on in
            ⊎_elim
            (λ none. (
              Some text,
              Some ((u ++ t) ++ v),
              one,
              here,
              λ same.
                  let eq : text ≡ (u ++ t) ++ v = cc in
                  none v (ap (λ z. drop c.start z) (eq ∙ append_assoc u t v) ∙ drop_at u (t ++ v) c.start long),
            ))
            (λ other.
            let m = laid.laid e.to other.0 other.1 in
            let w = m.0 in
            let there = reads_append G edges 0 e.to (nodes - 1) (Some w) (Some v) m.4 on in (
              Some (w ++ v),
              Some ((u ++ t) ++ v),
              there,
              here,
              λ same.
                  let eq : w ++ v ≡ (u ++ t) ++ v = cc in
                  let lens = ap length eq in
                  let a = length-append w v in
                  let b = length-append (u ++ t) v in
                  let d = length-append u t in
                  let y = m.3 in
                  other.2 (omega arith),
            ))
            c.apart

    pub edge_differs : (e : Edge) → In e edges → EdgeClashes G text lengths e → Differs G edges (nodes - 1)
    edge_differs e i c = ⊎_elim (λ none. lack_differs G edges nodes fine (e, i, none) text one) (λ clash. clash_differs e clash.0 i clash.1 clash.2) c

  module _ (all : AllAgree G edges text lengths (length edges)) where
    -- what a walk spells stands in the one text
    agree_stands : (p : List Edge) (n m a : ℕ) (v : Option (List ℕ)) → IsAt lengths n a → Spells G edges p n m v → (t : List ℕ) × (v ≡ Some t) × ((r : List ℕ) × (drop a text ≡ t ++ r)) × IsAt lengths m (a + length t)
    agree_stands [] n m a v h s = ([], s.1, (drop a text, refl), subst (λ k. IsAt lengths k (a + 0)) s.0 (let z : a + 0 ≡ a = omega arith in rw z h))
    agree_stands (e ∷ p) n m a v h s = go (λ k y i r. agree_stands p e.to m k y i r) s.2.0 s.2.1 s.2.2 s.2.3 s.2.4
      where
        go : ((k : ℕ) (y : Option (List ℕ)) → IsAt lengths e.to k → Spells G edges p e.to m y → (t : List ℕ) × (y ≡ Some t) × ((r : List ℕ) × (drop k text ≡ t ++ r)) × IsAt lengths m (k + length t)) → (x y : Option (List ℕ)) → G e x → Spells G edges p e.to m y → v ≡ joined x y → (t : List ℕ) × (v ≡ Some t) × ((r : List ℕ) × (drop a text ≡ t ++ r)) × IsAt lengths m (a + length t)
        go on None y g r is = let w = slice_get_within edges s.0.0 e s.0.1 in absurd ((all.agree s.0.0 e w s.0.1).0 g)
        go on (Some t) y g r is =
            let w = slice_get_within edges s.0.0 e s.0.1 in
            let c = (all.agree s.0.0 e w s.0.1).1 t g in
            let from : IsAt lengths n c.start = subst (λ k. IsAt lengths k c.start) s.1 c.at in
            let same : c.start ≡ a = is_at_same lengths n c.start a from h in
            let q = on (c.start + length t) y c.ends r in
            let tail : drop (c.start + length t) text ≡ c.rest = sym (drop-drop (length t) c.start text) ∙ ap (λ z. drop (length t) z) c.stands ∙ drop_at t c.rest (length t) refl in
            let len : (c.start + length t) + length q.0 ≡ a + length (t ++ q.0) = (let z = length-append t q.0 in omega arith) in
            let front : drop a text ≡ (t ++ q.0) ++ q.2.0 = ap (λ k. drop k text) (sym same) ∙ c.stands ∙ ap (λ z. t ++ z) (sym tail ∙ q.2.1) ∙ sym (append_assoc t q.0 q.2.0) in
            (t ++ q.0, is ∙ ap (λ z. joined (Some t) z) q.1, (q.2.0, front), subst (λ k. IsAt lengths m k) len q.3)

    -- so all programs answer with it
    agree_same : (last : ℕ) → IsAt lengths 0 0 → Reads G edges 0 last (Some text) → (v : Option (List ℕ)) → Reads G edges 0 last v → v ≡ Some text
    agree_same last first one v r =
        let a = agree_stands one.0 0 last 0 (Some text) first one.1 in
        let b = agree_stands r.0 0 last 0 v first r.1 in
        let ta : text ≡ a.0 = (let e = a.1 in cc) in
        let ends : 0 + length a.0 ≡ 0 + length b.0 = is_at_same lengths last _ _ a.3 b.3 in
        let front : text ≡ b.0 ++ b.2.0 = b.2.1 in
        let lens = ap length front in
        let l = length-append b.0 b.2.0 in
        let la = ap length ta in
        let empty : b.2.0 ≡ [] = nil_length b.2.0 (omega arith) in
        let same : text ≡ b.0 = front ∙ ap (λ z. b.0 ++ z) empty ∙ append-nil b.0 in
        b.1 ∙ ap Some (sym same)

    pub agree_no_doubt : (last : ℕ) → IsAt lengths 0 0 → Reads G edges 0 last (Some text) → ¬ (Differs G edges last)
    agree_no_doubt last first one d = d.4 (agree_same last first one d.0 d.2 ∙ sym (agree_same last first one d.1 d.3))

pub laid_start : (G : Edge → Option (List ℕ) → Type 0) (edges : List Edge) (text : List ℕ) (lengths : List (Option ℕ)) → IsAt lengths 0 0 → ((n a : ℕ) → IsAt lengths n a → (n ≡ 0) × (a ≡ 0)) → AreLaid G edges text lengths
laid_start G edges text lengths first others =
    record {
      laid = λ n a h. let z = others n a h in ([], text, refl, sym z.1, ([], (sym z.0, refl)));
      first = first;
    }

pub agrees_keep : (text : List ℕ) (old new : List (Option ℕ)) (from to : ℕ) (t : List ℕ) → KeepsLengths old new → Agrees text old from to t → Agrees text new from to t
agrees_keep text old new from to t k a =
    record { start = a.start; at = k from a.start a.at; ends = k to _ a.ends; rest = a.rest; stands = a.stands }

-- one more edge
pub all_more : (G : Edge → Option (List ℕ) → Type 0) (edges : List Edge) (text : List ℕ) (old new : List (Option ℕ)) (i : ℕ) (e : Edge) → slice_get edges i ≡ Some e → KeepsLengths old new → AllAgree G edges text old i → EdgeAgrees G text new e → AllAgree G edges text new (i + 1)
all_more G edges text old new i e at keeps s a =
    record {
      agree = λ k f l h.
          ⊎_elim (λ lt. let g = s.agree k f lt h in (g.0, λ t m. agrees_keep text old new f.from f.to t keeps (g.1 t m)))
          (λ ge. let same : k ≡ i = omega arith in
          let both : Some e ≡ Some f = sym at ∙ (rw same at h) in
          let ef : e ≡ f = cc in
          subst (λ (v : Edge). EdgeAgrees G text new v) ef a)
          (cases_lt k i);
    }

-- the last edge of a path
path_last : (edges : List Edge) (p : List Edge) (a b : ℕ) → Path edges a p b → (a ≡ b) ⊎ SomeIn (λ e. e.to ≡ b) edges
path_last edges [] a b h = inl h
path_last edges (e ∷ p) a b h = ⊎_elim (λ same. inr (e, h.0, same)) (λ r. inr r) (path_last edges p e.to b h.2)

-- the next edge's start has its length
pub from_is_laid : (G : Edge → Option (List ℕ) → Type 0) (edges : List Edge) (text : List ℕ) (lengths : List (Option ℕ)) (nodes i : ℕ) (e : Edge) → AreFine G nodes edges → slice_get edges i ≡ Some e → IsAt lengths 0 0 → AllAgree G edges text lengths i → (a : ℕ) × IsAt lengths e.from a
from_is_laid G edges text lengths nodes i e fine at first all =
    let lt = fine.onward i e at in
    let w = fine.within i e at in
    let p = fine.from_first e.from (omega arith) in
    ⊎_elim
    (λ z. (0, subst (λ n. IsAt lengths n 0) z first))
    (λ s.
    let f = s.0 in
    let j = s.1.0 in
    let before : j < i = fine.ordered j i f e s.1.1 at s.2 in
    let agreed = all.agree j f before s.1.1 in
    let t = text_of f agreed.0 (fine.answers j f s.1.1) in
    let a = agreed.1 t.0 t.1 in
    (_, subst (λ n. IsAt lengths n (a.start + length t.0)) s.2 a.ends))
    (path_last edges p.0 0 e.from p.1)
  where
    text_of : (f : Edge) → ¬ (G f None) → ((v : Option (List ℕ)) × G f v) → (t : List ℕ) × G f (Some t)
    text_of f full (None, g) = absurd (full g)
    text_of f full (Some t, g) = (t, g)

pub keeps_set : (old : List (Option ℕ)) (to a : ℕ) → slice_get old to ≡ Some None → KeepsLengths old (set old to (Some a))
keeps_set old to a free =
    λ n b h.
    let other : n ≡ to → ⊥ = (λ e. let q : Some None ≡ Some (Some b) = sym free ∙ rw e at h in cc) in
    set_other old to n (Some a) other ∙ h

-- where a new length is written
module _ (G : Edge → Option (List ℕ) → Type 0) (edges : List Edge) (text : List ℕ) (old : List (Option ℕ)) (e : Edge) (t : List ℕ) (start : ℕ) (i : In e edges) (j : G e (Some t)) (at : IsAt old e.from start) (rest : List ℕ) (stands : drop start text ≡ t ++ rest) where
  pub laid_more : AreLaid G edges text old → slice_get old e.to ≡ Some None → AreLaid G edges text (set old e.to (Some (start + length t)))
  laid_more s free =
      record {
        laid = λ n a h.
            ⊎_elim
            (λ same.
            let w = slice_get_within old e.to None free in
            let is : Some (Some (start + length t)) ≡ Some (Some a) = sym (set_same old e.to (Some (start + length t)) w) ∙ rw same at h in
            let l = s.laid e.from start at in
            let u = l.0 in
            let tail : l.1 ≡ t ++ rest = sym (drop_at u l.1 start l.3) ∙ ap (λ z. drop start z) (sym l.2) ∙ stands in
            let x = l.3 in
            let y = length-append u t in
            let sum : start + length t ≡ a = cc in
            let r = reads_append G edges 0 e.from e.to (Some u) (Some t) l.4 (reads_edge G edges e (Some t) i j) in
            (u ++ t, rest, l.2 ∙ ap (λ z. u ++ z) tail ∙ sym (append_assoc u t rest), omega arith, subst (λ k. Reads G edges 0 k (Some (u ++ t))) (sym same) r))
            (λ other. s.laid n a (sym (set_other old e.to n (Some (start + length t)) other) ∙ h))
            (cases_eq n e.to);
        first = keeps_set old e.to (start + length t) free 0 0 s.first;
      }

-- a length is at most the text's
pub laid_short : (G : Edge → Option (List ℕ) → Type 0) (edges : List Edge) (text : List ℕ) (lengths : List (Option ℕ)) → AreLaid G edges text lengths → (n a : ℕ) → IsAt lengths n a → a ≤ length text
laid_short G edges text lengths s n a h =
    let l = s.laid n a h in
    let long = ap length l.2 in
    let sum = length-append l.0 l.1 in
    let own = l.3 in
    omega arith

-- a piece that stands in the text ends within it
pub short_set : (text : List ℕ) (old : List (Option ℕ)) (to start : ℕ) (t rest : List ℕ) → start ≤ length text → drop start text ≡ t ++ rest → to < length old → ((n a : ℕ) → IsAt old n a → a ≤ length text)
    → (n a : ℕ) → IsAt (set old to (Some (start + length t))) n a → a ≤ length text
short_set text old to start t rest le stands w short n a h =
    ⊎_elim
    (λ same.
    let is : Some (Some (start + length t)) ≡ Some (Some a) = sym (set_same old to (Some (start + length t)) w) ∙ rw same at h in
    let sum : start + length t ≡ a = cc in
    let long = ap length stands in
    let both = length-append t rest in
    let left = length-drop start text in
    omega arith)
    (λ other. short n a (sym (set_other old to n (Some (start + length t)) other) ∙ h))
    (cases_eq n to)

-- one more piece of an edge
pub pieces_more : (text : List ℕ) (old new : List (Option ℕ)) (from to : ℕ) (xs : List Piece) (i : ℕ) (x : Piece) (t : List ℕ) → slice_get xs i ≡ Some x → t ≡ piece_text x → KeepsLengths old new
    → ((k : ℕ) (y : Piece) → k < i → slice_get xs k ≡ Some y → Agrees text old from to (piece_text y)) → Agrees text new from to t
    → (k : ℕ) (y : Piece) → k < i + 1 → slice_get xs k ≡ Some y → Agrees text new from to (piece_text y)
pieces_more text old new from to xs i x t at is keeps before here k y lt h =
    ⊎_elim (λ less. agrees_keep text old new from to (piece_text y) keeps (before k y less h))
    (λ past.
    let same : k ≡ i = omega arith in
    let there : slice_get xs i ≡ Some y = subst (λ j. slice_get xs j ≡ Some y) same h in
    let one : x ≡ y = cc in
    subst (λ u. Agrees text new from to u) (is ∙ ap piece_text one) here)
    (cases_lt k i)

pub pieces_all : (text : List ℕ) (lengths : List (Option ℕ)) (from to : ℕ) (xs : List Piece) (i : ℕ) → length xs ≤ i → ((k : ℕ) (y : Piece) → k < i → slice_get xs k ≡ Some y → Agrees text lengths from to (piece_text y))
    → (t : List ℕ) → SomeIn (λ x. piece_text x ≡ t) xs → Agrees text lengths from to t
pieces_all text lengths from to xs i past all t h =
    let w = slice_get_within xs h.1.0 h.0 h.1.1 in
    subst (λ u. Agrees text lengths from to u) h.2 (all h.1.0 h.0 (omega arith) h.1.1)
