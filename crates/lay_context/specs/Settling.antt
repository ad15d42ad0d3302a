-- What the loop over tasks keeps: the tasks that had their turn are done, and so what the next one needs is there.
use Rattle.std.specs.Prelude.{ℕ, ◌≡◌, ◌<◌, List, length, IfSome}
use Rattle.lay_box_tree.specs.declared.box_tree.BoxNode.{BoxNode}
use Rattle.lay_table_grid.specs.GridBounds.{PlacesAreBelow}
use Rattle.lay_contexts.specs.FormattingContexts.{FormattingContext, boxes_in}
use Rattle.lay_context.specs.declared.input.Input.{Input}
use Rattle.lay_context.specs.declared.task.Phase.TheVariants.{Size}
use Rattle.lay_context.specs.declared.task.Task.{Task}
use Rattle.lay_context.specs.declared.value.Value.{Value}
use Rattle.lay_context_sizes.specs.ContextSizes.{SizedContext}
use Rattle.lay_context.specs.Local.{HasCounts, IsLocal, IsTaskDone, with_value}
use Rattle.lay_context.specs.Workings.{Workings}
use Rattle.lay_context.specs.Medium.{Medium}
use Rattle.lay_context.specs.Needs.{Needs, turn_of}
use Rattle.lay_context.specs.PlacedContexts.{placement_in}
use Rattle.lay_context.specs.Settings.{sizes_in}

-- the sizes of a formatting context are of its boxes: there are as many, and the boxes of a table's grid are some of them
pub record AreOfBoxes (boxes : List BoxNode) (sized : SizedContext) : Type 0 where
  pub count : length sized.boxes ≡ length boxes
  pub grid : IfSome sized.table (λ table. PlacesAreBelow (length boxes) table.grid)

-- the sizes that a task reads are of the boxes that they are beside
pub record IsReady (contexts : List FormattingContext) (w : Workings) (task : Task) : Type 0 where
  pub within : task.context < length contexts
  pub counts : HasCounts contexts w
  pub sized : (j : ℕ) → Needs contexts task (record { context = j; phase = Size }) → AreOfBoxes (boxes_in contexts j) (sizes_in w.sizes j)

-- these tasks are done
pub record AreDone (medium : Medium) (contexts : List FormattingContext) (w : Workings) (these : Task → Type 0) : Type 0 where
  pub counts : HasCounts contexts w
  pub done : (task : Task) → task.context < length contexts → these task → IsTaskDone medium contexts w task

-- those that have their turn before this one, where the formatting contexts have these levels
abbrev pub BeforeTurn : List ℕ → ℕ → Task → Type 0
BeforeTurn levels turn task = turn_of levels task < turn

-- a task that was given this has got a value that is right beside it, which is noted of the formatting context with this number
pub record IsSettled (input : Input) (before : Workings) (i : ℕ) (after : Workings) : Type 0 where
  pub value : Value
  pub local : IsLocal input value
  pub noted : after ≡ with_value before i value

-- the columns that a tree is put together of are as long as the boxes that they are of
pub record AreKnown (contexts : List FormattingContext) (w : Workings) : Type 0 where
  pub counts : HasCounts contexts w
  pub sized : (i : ℕ) → i < length contexts → length (sizes_in w.sizes i).boxes ≡ length (boxes_in contexts i)
  pub standing : (i : ℕ) → i < length contexts → length (placement_in w.places i).standings ≡ length (boxes_in contexts i)
