use Rattle.std.proofs.Common.{◌≡◌, ◌+◌, ◌*◌, ◌/◌, ◌%◌, ◌^◌, get_or, refl, sym, ◌∙◌, subst, bit_or, length-set}
use Rattle.std.proofs.lemmas.Grind.{get_or_default_zero}
use Rattle.std.specs.Vec.{with_item}
use Rattle.fill_meet.specs.Bits.{IsPutBit}
use Rattle.fill_meet.proofs.Words.{put_here, put_stays, put_was}
use Rattle.fill_meet.proofs.bits.Bits.put.Goals as goal

pub returns : goal.returns
returns c =
    let b = c.args.self.now in
    let i = c.args.row * c.args.self.now.per_row + c.args.column / 64 in
    let word : c.index_mut.result.now ≡ get_or c.args.self.now.words.items (c.args.row * c.args.self.now.per_row + c.args.column / 64) 0 =
    c.index_mut.ensures.value ∙ get_or_default_zero c.args.self.now.words.items (c.args.row * c.args.self.now.per_row + c.args.column / 64) c.index_mut.result.now c.requires.0 in
    subst (λ w. IsPutBit c.args.row c.args.column c.args.self.now (record { words = with_item c.args.self.now.words (c.args.row * c.args.self.now.per_row + c.args.column / 64) (bit_or w (1 * 2 ^ (c.args.column % 64) % 18446744073709551616)); per_row = c.args.self.now.per_row })) (sym word)
    (record {
      stays = put_stays b.words.items b.per_row c.args.row c.args.column c.requires.0 c.requires.1;
      here = put_here b.words.items b.per_row c.args.row c.args.column c.requires.0 c.requires.1;
      was = put_was b.words.items b.per_row c.args.row c.args.column c.requires.0 c.requires.1;
      long = length-set b.words.items i _;
      wide = refl;
    })
