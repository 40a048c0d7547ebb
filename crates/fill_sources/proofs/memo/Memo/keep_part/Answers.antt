use Rattle.std.proofs.Common.{◌≡◌, ℕ, List, Option, Some, cond, subst}
use Rattle.std.specs.BTreeMap.{get_by}
use Rattle.std.specs.Cmp.Lexicographic.{slice_cmp}
use Rattle.std.specs.Ordering.{nat_cmp, ordering_then}
use Rattle.fill_sources.specs.Sets.{IsPartMade, part_in}
use Rattle.fill_sources.proofs.Made.{part_same, put_right, text_and_depth}
use Rattle.fill_sources.proofs.memo.Memo.keep_part.Goals as goal

pub returns-in-Ok : goal.returns-in-Ok
returns-in-Ok c on texts d right made =
    let before : List ℕ × ℕ → Option (Option ℕ) = λ k. part_in c.args.self.now k in
    let after : List ℕ × ℕ → Option (Option ℕ) = λ k. get_by (λ y. ordering_then (slice_cmp nat_cmp k.0 y.0.now) (nat_cmp k.1 y.1)) c.insert.new.self in
    let put : (k : List ℕ × ℕ) → after k ≡ cond (text_and_depth (c.args.w.now, c.args.depth) k) (Some c.args.made.now) (before k) =
    λ k. subst (λ (w : List ℕ). after k ≡ cond (text_and_depth (w, c.args.depth) k) (Some c.args.made.now) (before k)) c.as_slice.ensures (c.in-Ok.ensures.updates.0 (record { ref_ptr = (0, 0); now = k.0 }, k.1)) in
    record {
      indexes = right.indexes;
      places = right.places;
      sources = right.sources;
      parts = put_right text_and_depth part_same (IsPartMade on d) before after (c.args.w.now, c.args.depth) c.args.made.now put made right.parts;
    }
