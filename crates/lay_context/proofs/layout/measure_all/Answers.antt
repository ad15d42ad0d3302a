use Rattle.std.proofs.Common.{arith}
use Rattle.lay_context.proofs.TaskSteps.{measure_ready, one_measured}
use Rattle.lay_context.proofs.layout.measure_all.Goals as goal

pub settle-requires : goal.settle-requires
settle-requires c = record {
  ready = rw c.len-count.ensures.count (measure_ready c.args.plan.now.medium.now c.args.plan.now.contexts.now c.args.plan.now.levels.now c.len-count.ensures.are c.args.plan.now.has_levels c.args.plan.now.grids c.loop-done.known c.loop-done.done (omega arith) c.loop-done.invariant);
}

pub loop-done-preserved : goal.loop-done-preserved
loop-done-preserved c =
    let settled = rw c.len-count.ensures.count at c.in_ok-settle.ensures in
    one_measured c.args.plan.now.medium.now c.args.plan.now.contexts.now c.args.plan.now.levels.now c.len-count.ensures.are c.args.plan.now.has_levels c.args.plan.now.grids c.loop-done.known c.settle.new.known c.loop-done.done (omega arith) c.loop-done.invariant settled
