use Rattle.std.proofs.Common.{arith}
use Rattle.lay_table_sizes.proofs.BoundSteps.{nothing_left, run_ends, run_more}
use Rattle.lay_table_sizes.proofs.group_spans.run_from.Goals as goal

pub loop-j-preserved : goal.loop-j-preserved
loop-j-preserved c =
    let so_far = c.loop-j.invariant in
    let more = run_more c.args.groups.now c.loop-j.j c.args.group c.group_at-other.result c.group_at-other.ensures c.if-other-group.false in
    omega (arith, so_far, more)

pub returns-then-other-group-clause-run : goal.returns-then-other-group-clause-run
returns-then-other-group-clause-run c =
    let so_far = c.loop-j.invariant in
    let ends = run_ends c.args.groups.now c.loop-j.j c.args.group c.group_at-other.result c.group_at-other.ensures c.if-other-group.true in
    omega (arith, so_far, ends)

pub returns-clause-run : goal.returns-clause-run
returns-clause-run c =
    let so_far = c.loop-j.invariant in
    let low = c.loop-j.auto.j in
    let high = c.loop-j.auto.j-end in
    let past = c.loop-j-test.false in
    let none = nothing_left c.args.group c.args.groups.now c.loop-j.j (omega (arith, past)) in
    omega (arith, so_far, none, low, high, past)
