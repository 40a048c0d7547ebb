use Rattle.std.proofs.Common.{◌≡◌, ◌+◌, ◌*◌, ◌<◌, length, get_or, arith, sym, ◌∙◌}
use Rattle.std.proofs.lemmas.Option.{slice_get-get_or}
use Rattle.fill_split.specs.Standing.{spots}
use Rattle.fill_split.proofs.Zips.{here}
use Rattle.fill_split.proofs.Pairs.{spot_at, spots_long}
use Rattle.fill_split.proofs.Prefixes.{rebuilt_start, rebuilt_open, rebuilt_join, rebuilt_end, branch_is_there}
use Rattle.fill_split.proofs.prefix.rebuild.Goals as goal
use Rattle.fill_split.proofs.prefix.rebuild.Goals.{then-branch-len+in_ok-open_branch, else-branch-len+in_ok-join_branch}

pub loop-i-init : goal.loop-i-init
loop-i-init g c =
    let m = g.M.Maker in
    let b = m.base c.args.maker.now in
    rebuilt_start (m.stands c.args.maker.now) (m.fits b) (m.weight b) c.args.kept.now (spots c.args.kept.now c.args.places.now) _ c.new-branches.ensures.items

pub join_branch-requires : goal.join_branch-requires
join_branch-requires g c =
    let m = g.M.Maker in
    let b = m.base c.args.maker.now in
    let ks = c.args.kept.now in
    let ps = c.args.places.now in
    let i = c.loop-i.i in
    let v = c.index-kept-place.result in
    let paired = c.requires.paired in
    let within = c.loop-i-test.true in
    let second : 2 * i + 1 < length ks = omega arith in
    let first : 2 * i < length ks = omega arith in
    let at = spot_at ks ps i (get_or ks (2 * i) v) v (get_or ps i 0) (slice_get-get_or ks (2 * i) v first) (here ks (2 * i + 1) v second c.index-kept-place.is) (slice_get-get_or ps i 0 within) in
    let n = c.len.ensures in
    let d = c.loop-i.branches.ok.0 in
    let r = c.requires.came in
    let long : length c.loop-i.branches.items ≡ c.len.result = omega arith in
    branch_is_there (m.stands c.args.maker.now) (m.fits b) (m.weight b) ks (spots ks ps) i _ at c.loop-i.branches.items c.loop-i.invariant r.0 r.1 r.2 r.3 (λ e. c.if-branch-len.false (e ∙ long))

pub loop-i-preserved : goal.loop-i-preserved
loop-i-preserved g c =
    let m = g.M.Maker in
    let b = m.base c.args.maker.now in
    let ks = c.args.kept.now in
    let ps = c.args.places.now in
    let i = c.loop-i.i in
    let v = c.index-kept-place.result in
    let paired = c.requires.paired in
    let within = c.loop-i-test.true in
    let second : 2 * i + 1 < length ks = omega arith in
    let first : 2 * i < length ks = omega arith in
    let value = here ks (2 * i + 1) v second c.index-kept-place.is in
    let at = spot_at ks ps i (get_or ks (2 * i) v) v (get_or ps i 0) (slice_get-get_or ks (2 * i) v first) value (slice_get-get_or ps i 0 within) in
    let n = c.len.ensures in
    let d = c.loop-i.branches.ok.0 in
    let long : length c.loop-i.branches.items ≡ c.len.result = omega arith in
    elim c.if-branch-len.branch [
      | then-branch-len+in_ok-open_branch w ↦
          let o = w.in_ok-open_branch.ensures in
          rw w.branches-is (rebuilt_open (m.stands c.args.maker.now) (m.fits b) (m.weight b) ks (spots ks ps) i _ at c.loop-i.branches.items c.loop-i.invariant o.0 _ o.2 (rw o.4 value) (w.if-branch-len.true ∙ sym long) o.1 o.3)
      | else-branch-len+in_ok-join_branch w ↦
          let a = w.in_ok-join_branch.ensures in
          rw w.branches-is (rebuilt_join (m.stands c.args.maker.now) (m.fits b) (m.weight b) ks (spots ks ps) i _ at c.loop-i.branches.items c.loop-i.invariant a.1 _ a.4 (rw a.6 value) a.0 (λ e. w.if-branch-len.false (e ∙ long)) a.2 a.3 a.5)
    ]

pub returns : goal.returns
returns g c =
    let m = g.M.Maker in
    let b = m.base c.args.maker.now in
    let ks = c.args.kept.now in
    let ps = c.args.places.now in
    let long = spots_long ks ps c.requires.paired in
    let past = c.loop-i-test.false in
    rebuilt_end (m.stands c.args.maker.now) (m.fits b) (m.weight b) ks (spots ks ps) c.loop-i.i c.loop-i.branches.items (omega arith) c.loop-i.invariant
