use Rattle.std.proofs.Common.{arith}
use Rattle.lay_context.proofs.TaskSteps.{none_sized, one_sized, size_ready}
use Rattle.lay_context.proofs.layout.size_level.Goals as goal
use Rattle.lay_context.proofs.layout.size_level.Goals.{then-plan-i+in_ok-settle, else-plan-i}

pub settle-requires : goal.settle-requires
settle-requires c = record {
  ready = size_ready c.args.plan.now.medium.now c.args.plan.now.contexts.now c.args.plan.now.levels.now c.len-count.ensures.are c.args.plan.now.has_levels c.args.plan.now.grids c.loop-i.known c.args.level c.loop-i.i (omega arith) c.if-plan-i.true c.loop-i.invariant;
}

pub loop-i-preserved : goal.loop-i-preserved
loop-i-preserved c = elim c.if-plan-i.branch [
  | then-plan-i+in_ok-settle w ↦
      rw w.known-is (one_sized c.args.plan.now.medium.now c.args.plan.now.contexts.now c.args.plan.now.levels.now c.len-count.ensures.are c.args.plan.now.has_levels c.args.plan.now.grids c.loop-i.known w.settle.new.known c.args.level c.loop-i.i (omega arith) w.if-plan-i.true c.loop-i.invariant w.in_ok-settle.ensures)
  | else-plan-i w ↦
      rw w.known-is (none_sized c.args.plan.now.medium.now c.args.plan.now.contexts.now c.args.plan.now.levels.now c.len-count.ensures.are c.args.plan.now.has_levels c.args.plan.now.grids c.loop-i.known c.args.level c.loop-i.i (omega arith) w.if-plan-i.false c.loop-i.invariant)
]
