use Rattle.std.proofs.Common.{◌≡◌, ◌∷◌, [], ◌+◌, ℕ, List, length, arith, subst, sym, ap, ◌∙◌, min}
use Rattle.fill_tokens.specs.TokenSet.{IsTokenOf}
use Rattle.fill_tokens.specs.declared.token.Token.{Token}
use Rattle.fill_tokens.specs.declared.token_set.TokenSet.{TokenSet}
use Rattle.fill_tokens.proofs.SeqOrder.{one_is, two_is}
use Rattle.fill_tokens.proofs.TokenLaws.{in_all}
use Rattle.fill_guard.specs.Matches.{IsMatchCount, IsFew, IsJoined, AreBelow}
use Rattle.fill_guard.proofs.MatchLaws.{count_of_one, count_of_two, starts_below}
use Rattle.fill_guard.proofs.pieces.Pieces.count.Goals as goal

pub pieces-first-requires : goal.pieces-first-requires
pieces-first-requires c = subst (λ (s : TokenSet). IsTokenOf s c.token.result) (sym c.self.invariant) (in_all c.token.result)

pub pieces-second-requires : goal.pieces-second-requires
pieces-second-requires c = subst (λ (s : TokenSet). IsTokenOf s c.token-2.result) (sym c.self.invariant) (in_all c.token-2.result)

pub returns-then-len-eq1 : goal.returns-then-len-eq1
returns-then-len-eq1 c =
    let t : List ℕ = c.self.inside.spans.text in
    let x : Token = c.token.result in
    let is : x ∷ [] ≡ c.args.seq.now = one_is c.args.seq.now x (omega arith) c.token.ensures in
    let first = c.pieces-first.result.now in
    let few : c.at_most.result ≡ min (length first.starts.items) 3 = c.at_most.ensures ∙ ap (λ n. min n 3) (ap length c.as_slice.ensures.value) in
    let counted = count_of_one x t first.starts.items first.ends.items c.pieces-first.ensures c.at_most.result few in
    subst (λ (u : List ℕ). IsMatchCount c.args.seq.now u c.at_most.result) c.self.view_is (subst (λ (r : List Token). IsMatchCount r t c.at_most.result) is counted)

pub returns : goal.returns
returns c =
    let t : List ℕ = c.self.inside.spans.text in
    let x : Token = c.token.result in
    let y : Token = c.token-2.result in
    let is : x ∷ y ∷ [] ≡ c.args.seq.now = two_is c.args.seq.now x y (omega arith) c.token.ensures c.token-2.ensures in
    let first = c.pieces-first.result.now in
    let second = c.pieces-second.result.now in
    let few = c.count_joined.result in
    let below = starts_below x t first.starts.items first.ends.items c.pieces-first.ensures in
    let made = c.count_joined.ensures (length t + 1) (subst (λ (ks : List ℕ). AreBelow ks (length t + 1)) (sym c.deref.ensures.value) below) in
    let joined =
    subst (λ (ks : List ℕ). IsFew (IsJoined first.starts.items first.ends.items ks) (length t + 1) few) c.deref-3.ensures.value
    (subst (λ (ks : List ℕ). IsFew (IsJoined first.starts.items ks c.deref-3.result.now) (length t + 1) few) c.deref-2.ensures.value
    (subst (λ (ks : List ℕ). IsFew (IsJoined ks c.deref-2.result.now c.deref-3.result.now) (length t + 1) few) c.deref.ensures.value made)) in
    let counted = count_of_two x t first.starts.items first.ends.items c.pieces-first.ensures y second.starts.items second.ends.items c.pieces-second.ensures few joined in
    subst (λ (u : List ℕ). IsMatchCount c.args.seq.now u few) c.self.view_is (subst (λ (r : List Token). IsMatchCount r t few) is counted)
