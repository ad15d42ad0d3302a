use Rattle.std.proofs.Common.{arith, ◌∙◌}
use Rattle.lay_flow.proofs.PlacedOn.{goes_further, placed_count, placed_further}
use Rattle.lay_flow.proofs.placement.place_up_to.Goals as goal

pub loop-k-preserved : goal.loop-k-preserved
loop-k-preserved c =
    let inv = c.loop-k.invariant in
    let done = c.in_ok-place_one.ensures {u = tt} in
    let le = inv.0 in
    let now = placed_count c.args.of.now.boxes.list.now c.args.of.now.marks.now c.loop-k.placing _ inv.1 in (
      omega (arith, le),
      placed_further c.args.of.now.boxes.list.now c.args.of.now.marks.now c.loop-k.placing c.place_one.new.placing _ _ inv.1 done.placed done.count,
      goes_further c.args.of.now.boxes.list.now c.args.of.now.marks.now c.args.placing.now c.loop-k.placing c.place_one.new.placing inv.2 (omega (arith, le, now)) done.placed,
      λ j e. done.kept j (λ s. let lt = e s in omega (arith, lt, le)) ∙ inv.3 j e,
    )

pub returns-clause-count : goal.returns-clause-count
returns-clause-count c =
    let order = c.requires.order in
    let now = placed_count c.args.of.now.boxes.list.now c.args.of.now.marks.now c.loop-k.placing _ c.loop-k.invariant.1 in
    omega (arith, order, now)
