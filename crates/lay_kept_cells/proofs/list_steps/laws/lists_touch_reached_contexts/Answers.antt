use Rattle.lay_kept_cells.proofs.ListStepsLemmas.TouchedLists.{lists_touch_reached_contexts_lem}
use Rattle.lay_kept_cells.proofs.list_steps.laws.lists_touch_reached_contexts.Goals as goal

pub returns : goal.returns
returns c = lists_touch_reached_contexts_lem c.touched_contexts_are_reached.ensures
