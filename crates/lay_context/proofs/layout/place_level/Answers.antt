use Rattle.std.proofs.Common.{arith}
use Rattle.lay_context.proofs.TaskSteps.{none_placed, one_placed_more, place_ready}
use Rattle.lay_context.proofs.layout.place_level.Goals as goal
use Rattle.lay_context.proofs.layout.place_level.Goals.{then-plan-i+in_ok-settle, else-plan-i}

pub settle-requires : goal.settle-requires
settle-requires c =
    let at = rw c.len-count.ensures.count at c.if-plan-i.true in
    record {
      ready = rw c.len-count.ensures.count (place_ready c.args.plan.now.medium.now c.args.plan.now.contexts.now c.args.plan.now.levels.now c.len-count.ensures.are c.args.plan.now.has_levels c.args.plan.now.grids c.loop-done.known c.args.level c.loop-done.done (omega arith) at c.loop-done.invariant);
    }

pub loop-done-preserved : goal.loop-done-preserved
loop-done-preserved c = elim c.if-plan-i.branch [
  | then-plan-i+in_ok-settle w ↦
      (let at = rw c.len-count.ensures.count at w.if-plan-i.true in
      let settled = rw c.len-count.ensures.count at w.in_ok-settle.ensures in
      rw w.known-is (one_placed_more c.args.plan.now.medium.now c.args.plan.now.contexts.now c.args.plan.now.levels.now c.len-count.ensures.are c.args.plan.now.has_levels c.args.plan.now.grids c.loop-done.known w.settle.new.known c.args.level c.loop-done.done (omega arith) at c.loop-done.invariant settled))
  | else-plan-i w ↦
      (let differ = rw c.len-count.ensures.count at w.if-plan-i.false in
      rw w.known-is (none_placed c.args.plan.now.medium.now c.args.plan.now.contexts.now c.args.plan.now.levels.now c.len-count.ensures.are c.args.plan.now.has_levels c.args.plan.now.grids c.loop-done.known c.args.level c.loop-done.done (omega arith) differ c.loop-done.invariant))
]
