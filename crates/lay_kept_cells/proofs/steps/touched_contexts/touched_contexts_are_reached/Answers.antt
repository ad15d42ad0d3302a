use Rattle.lay_kept_cells.proofs.StepsLemmas.ReachedContexts.{touched_contexts_are_reached_lem}
use Rattle.lay_kept_cells.proofs.steps.touched_contexts.touched_contexts_are_reached.Goals as goal

pub returns : goal.returns
returns c =
    touched_contexts_are_reached_lem c.measured_where_shrunk.ensures c.edits_touch_reached_contexts.ensures c.edits_touch_no_others.ensures
