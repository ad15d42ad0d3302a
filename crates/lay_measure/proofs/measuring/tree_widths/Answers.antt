use Rattle.std.proofs.Common.{rules, ◌≡◌, ◌-◌, [], length, drop, ap, ◌∙◌, arith, slice_get, replicate}
use Rattle.lay_measure.specs.ChildTotals.{totals_of}
use Rattle.lay_measure.specs.PreferredWidths.{children}
use Rattle.lay_measure.proofs.ChildrenBefore.{none_left, one_value, totals_from}
use Rattle.lay_measure.proofs.measuring.tree_widths.Goals as goal

pub loop-done-init : goal.loop-done-init
loop-done-init c =
    let n = length c.boxes-count.result.now in
    let count : n ≡ length c.args.of.now.boxes = search rules in
    let items : c.in_ok-totals.totals.items ≡ replicate n (totals_of []) = c.in_ok-totals.ensures.items_if_clones_equal (λ y e. e) in
    none_left c.args.of.now n c.in_ok-totals.totals.items count items

pub returns : goal.returns
returns c =
    let m = c.args.of.now in
    let n = length c.boxes-count.result.now in
    let count : n ≡ length m.boxes = search rules in
    let last : n - c.loop-done.done ≡ 1 = omega (arith, count, c.loop-done-test.false, c.loop-done.auto.done-end, c.requires.some) in
    let known = ap (λ xs. slice_get xs 0) c.as_slice.ensures.value ∙ c.loop-done.invariant.1 0 (omega (arith, last)) in
    let is : c.totals_at.result ≡ totals_from m 0 (n - c.loop-done.done) = one_value (slice_get c.as_slice.result.now 0) c.totals_at.result (totals_from m 0 (n - c.loop-done.done)) c.totals_at.ensures known in
    let all = is ∙ ap (λ k. totals_from m 0 k) last in
    c.in_ok-widths.ensures (children m 0 1 (drop 1 m.boxes)) all
