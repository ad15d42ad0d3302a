use Rattle.lay_context.proofs.TaskContents.{of_task}
use Rattle.lay_context.proofs.layout.settle.Goals as goal

pub compute_with-requires : goal.compute_with-requires
compute_with-requires c =
    let input = c.in_ok-input.ensures {u = tt} in
    rw input (of_task c.args.plan.now.medium.now c.args.plan.now.contexts.now c.args.known.now c.args.task _ c.contents_of.ensures.contents)
