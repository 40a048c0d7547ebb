-- The order of places is total, and tells all places apart.
use Rattle.std.proofs.Common.{◌≡◌, List, ℤ, pos, negsuc, length, refl, ap, arith}
use Rattle.std.specs.declared.cmp.Ordering.TheVariants.{Less}
use Rattle.std.specs.Ordering.{nat_cmp, ordering_reverse, on}
use Rattle.std.specs.Cmp.{IsTotalOrder}
use Rattle.std.proofs.lemmas.Cmp.{nat_cmp_total, on_total, then_total, lists_total}
use Rattle.std.proofs.lemmas.Map.Lookups.{CmpEqualImpliesEq, exact_unsigned}
use Rattle.fill_tokens.specs.Token.{token_number}
use Rattle.fill_tokens.specs.Place.{magnitude, sign_number, signed_cmp, seq_cmp, place_cmp}
use Rattle.fill_tokens.specs.declared.token.Token.{Token}
use Rattle.fill_tokens.specs.declared.place.Place.{Place}
use Rattle.fill_tokens.specs.declared.place.Place.TheVariants.{CPos, Pos}
use Rattle.fill_tokens.proofs.TokenLaws.{exact_tokens}
use Rattle.fill_tokens.proofs.OrderingLemmas.{then_first, then_second, then_reverse, then_chain, alike_left, alike_right, exact_lists}

pub seq_total : IsTotalOrder seq_cmp
seq_total = then_total (on_total length nat_cmp_total) (lists_total (on_total token_number nat_cmp_total))

pub signed_total : IsTotalOrder signed_cmp
signed_total = then_total (on_total magnitude nat_cmp_total) (on_total sign_number nat_cmp_total)

pub seq_antisymm : (r s : List Token) → seq_cmp r s ≡ ordering_reverse (seq_cmp s r)
seq_antisymm = seq_total.antisymm

pub signed_antisymm : (a b : ℤ) → signed_cmp a b ≡ ordering_reverse (signed_cmp b a)
signed_antisymm = signed_total.antisymm

pub exact_seqs : CmpEqualImpliesEq seq_cmp
exact_seqs a b h = exact_lists (on token_number nat_cmp) exact_tokens a b (then_second (nat_cmp (length a) (length b)) _ h)

signed_is : (a b : ℤ) → magnitude a ≡ magnitude b → sign_number a ≡ sign_number b → a ≡ b
signed_is (pos m) (pos n) p q = ap pos p
signed_is (pos m) (negsuc n) p q = absurd (omega arith)
signed_is (negsuc m) (pos n) p q = absurd (omega arith)
signed_is (negsuc m) (negsuc n) p q = let e : m ≡ n = omega arith in ap negsuc e

pub exact_signed : CmpEqualImpliesEq signed_cmp
exact_signed a b h =
    signed_is a b (exact_unsigned (magnitude a) (magnitude b) (then_first _ _ h)) (exact_unsigned (sign_number a) (sign_number b) (then_second (nat_cmp (magnitude a) (magnitude b)) _ h))

pub place_antisymm : (p q : Place) → place_cmp p q ≡ ordering_reverse (place_cmp q p)
place_antisymm (CPos a) (CPos b) = signed_total.antisymm a b
place_antisymm (CPos a) (Pos s0 s1 d) = refl
place_antisymm (Pos r0 r1 c) (CPos b) = refl
place_antisymm (Pos r0 r1 c) (Pos s0 s1 d) =
    then_reverse _ _ _ _ (seq_total.antisymm r0 s0) (then_reverse _ _ _ _ (seq_total.antisymm r1 s1) (signed_total.antisymm c d))

pub exact_places : CmpEqualImpliesEq place_cmp
exact_places (CPos a) (CPos b) h = ap CPos (exact_signed a b h)
exact_places (CPos a) (Pos s0 s1 d) h = cc
exact_places (Pos r0 r1 c) (CPos b) h = cc
exact_places (Pos r0 r1 c) (Pos s0 s1 d) h =
    let first = exact_seqs r0 s0 (then_first _ _ h) in
    let rest = then_second (seq_cmp r0 s0) _ h in
    let second = exact_seqs r1 s1 (then_first _ _ rest) in
    let third = exact_signed c d (then_second (seq_cmp r1 s1) _ rest) in
    cc

pub place_trans : (p q r : Place) → place_cmp p q ≡ Less → place_cmp q r ≡ Less → place_cmp p r ≡ Less
place_trans (CPos a) (CPos b) (CPos c) h k = signed_total.trans a b c h k
place_trans (CPos a) q (Pos t0 t1 e) h k = refl
place_trans (CPos a) (Pos s0 s1 d) (CPos c) h k = cc
place_trans (Pos r0 r1 c) (CPos b) r h k = cc
place_trans (Pos r0 r1 c) (Pos s0 s1 d) (CPos e) h k = cc
place_trans (Pos r0 r1 c) (Pos s0 s1 d) (Pos t0 t1 e) h k =
    then_chain _ _ _ _ _ _ (seq_total.trans r0 s0 t0) (alike_left seq_cmp exact_seqs r0 s0 t0) (alike_right seq_cmp exact_seqs r0 s0 t0)
    (then_chain _ _ _ _ _ _ (seq_total.trans r1 s1 t1) (alike_left seq_cmp exact_seqs r1 s1 t1) (alike_right seq_cmp exact_seqs r1 s1 t1)
    (signed_total.trans c d e)) h k

pub place_total : IsTotalOrder place_cmp
place_total = record {
  antisymm = place_antisymm;
  trans = place_trans;
  congr = λ p q r e. ap (λ x. place_cmp x r) (exact_places p q e);
}
