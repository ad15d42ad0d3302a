-- The equations of a layout in which each formatting context has its preferred widths (CSS 2.2, 10.3.5), whether they count for
-- anything or not. A layout works out those that count (`Measured`), and gets the same tree by it.
use Rattle.std.specs.Prelude.{◌<◌, List, length}
use Rattle.lay_frag.specs.Pieces.{Context as PageContext}
use Rattle.lay_contexts.specs.FormattingContexts.{FormattingContext}
use Rattle.lay_context.specs.declared.input.Input.{Input}
use Rattle.lay_context.specs.declared.input.Input.TheVariants as input
use Rattle.lay_context.specs.declared.task.Phase.{Phase}
use Rattle.lay_context.specs.declared.task.Phase.TheVariants as phase
use Rattle.lay_context.specs.declared.task.Task.{Task}
use Rattle.lay_context.specs.Local.{HasCounts, IsLocal, measure_input, place_input, size_input, value_of_task}
use Rattle.lay_context.specs.Medium.{Medium}
use Rattle.lay_context.specs.Solves.{IsAssembled}
use Rattle.lay_context.specs.Workings.{Workings}

-- what a task is given there
abbrev pub measured_input : Medium → List FormattingContext → Workings → Task → Input
measured_input medium contexts w task = by task.phase
  where
    by : Phase → Input
    by phase.Measure = input.Measure (measure_input medium contexts w task.context)
    by phase.Size = input.Size (size_input medium contexts w task.context)
    by phase.Place = place_input medium contexts w task.context

-- the tree has the rectangles of workings that meet these equations
pub record SolvesMeasured (medium : Medium) (contexts : List FormattingContext) (tree : List PageContext) : Type 0 where
  pub workings : Workings
  pub counts : HasCounts contexts workings
  pub done : (task : Task) → task.context < length contexts
      → IsLocal (measured_input medium contexts workings task) (value_of_task workings task)
  pub assembled : IsAssembled contexts workings tree
