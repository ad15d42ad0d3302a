-- One task of a layout by itself: what it is given, and which values are right beside that (CSS 2.2, chapters 8 to 10 and 17). What
-- is given is plain data, in which no document and no number of a formatting context stands, and the value is its answer to that
-- alone.
use Rattle.std.specs.Prelude.{ℕ, ◌≡◌, Bool, true, false, List, length, slice_set, Option, None, Some, option_map}
use Rattle.lay_box_tree.specs.ContextBoxes.{AreContextBoxes}
use Rattle.lay_table_sizes.specs.TableSizesValue.{TableSizesValue}
use Rattle.lay_contexts.specs.FormattingContexts.{FormattingContext, boxes_in}
use Rattle.lay_flow_boxes.specs.PlaceInputs.{PlaceInput}
use Rattle.lay_placement.specs.ContextPlacements.{IsPlacement}
use Rattle.lay_table.specs.TableInputs.{TableInput}
use Rattle.lay_table.specs.TablePlacements.{IsTablePlacement}
use Rattle.lay_context.specs.declared.task.Phase.{Phase}
use Rattle.lay_context.specs.declared.task.Phase.TheVariants as phase
use Rattle.lay_context.specs.declared.task.Task.{Task}
use Rattle.lay_context.specs.declared.input.Input.{Input}
use Rattle.lay_context.specs.declared.input.Input.TheVariants as input
use Rattle.lay_context.specs.declared.value.Value.{Value}
use Rattle.lay_context.specs.declared.value.Value.TheVariants as value
use Rattle.lay_context_sizes.specs.ContextSizes.{HasSizes}
use Rattle.lay_context_sizes.specs.ContextWidths.{IsMeasured}
use Rattle.lay_context_sizes.specs.MeasuredContexts.{not_measured}
use Rattle.lay_context.specs.DocumentLayout.{inner_boxes, inner_pieces, inner_widths, widths_in}
use Rattle.lay_context_sizes.specs.Inputs.{MeasureInput, SizeInput}
use Rattle.lay_context.specs.Measured.{is_measured}
use Rattle.lay_context.specs.Medium.{Medium}
use Rattle.lay_context.specs.OwnHeights.{own_height_rule}
use Rattle.lay_abspos.specs.OwnOffsets.{IsOwnOffset, StandInput}
use Rattle.lay_context.specs.PlacedContexts.{placed_in}
use Rattle.lay_context.specs.Settings.{own_place_of, setting_of, sizes_in}
use Rattle.lay_context.specs.Workings.{Workings}

-- A value is right beside what its task is given. What is sized and what is placed in block flow are the boxes of a formatting context,
-- the own box before what is in it.
abbrev pub IsLocal : Input → Value → Type 0
IsLocal (input.Measure i) (value.Measure widths) = IsMeasured i widths
IsLocal input.Unmeasured (value.Measure widths) = widths ≡ not_measured
IsLocal (input.Size i) (value.Size sizes) = AreContextBoxes i.boxes × HasSizes i sizes
IsLocal (input.Place i at) (value.Place answer) =
    AreContextBoxes i.boxes × IsPlacement i answer.placement × IsOwnOffset at answer.placement.own answer.offset
IsLocal (input.PlaceTable i at) (value.Place answer) =
    IsTablePlacement i answer.placement × IsOwnOffset at answer.placement.own answer.offset
IsLocal _ _ = ⊥

-- there are as many of each
pub record HasCounts (contexts : List FormattingContext) (w : Workings) : Type 0 where
  pub widths : length w.widths ≡ length contexts
  pub sizes : length w.sizes ≡ length contexts
  pub places : length w.places ≡ length contexts

abbrev pub measure_input : Medium → List FormattingContext → Workings → ℕ → MeasureInput
measure_input medium contexts w i =
    record { boxes = boxes_in contexts i; inner = inner_widths contexts w.widths i; face = medium.face }

-- a formatting context whose preferred widths don't count is given nothing for them
abbrev pub measure_as : (is_measured : Bool) → MeasureInput → Input
measure_as true i = input.Measure i
measure_as false i = input.Unmeasured

abbrev pub size_input : Medium → List FormattingContext → Workings → ℕ → SizeInput
size_input medium contexts w i = record {
  boxes = boxes_in contexts i;
  measured = widths_in w.widths i;
  setting = setting_of medium.viewport contexts w i;
}

-- what the placement of boxes in block flow is given
abbrev pub flow_input : Medium → List FormattingContext → Workings → ℕ → PlaceInput
flow_input medium contexts w i = record {
  boxes = boxes_in contexts i;
  sizes = (sizes_in w.sizes i).boxes;
  inner = inner_boxes contexts w.places i;
  pieces = inner_pieces contexts w.places i;
  own_height = own_height_rule (boxes_in contexts i) (sizes_in w.sizes i).boxes (sizes_in w.sizes i).stretched;
  face = medium.face;
}

-- and that of a table
abbrev pub table_input : List FormattingContext → Workings → ℕ → TableSizesValue → TableInput
table_input contexts w i table = record {
  boxes = boxes_in contexts i;
  sizes = (sizes_in w.sizes i).boxes;
  table = table;
  inner = inner_boxes contexts w.places i;
  pieces = inner_pieces contexts w.places i;
}

-- and what says where it stands itself
abbrev pub stand_input : Medium → List FormattingContext → Workings → ℕ → StandInput
stand_input medium contexts w i = record {
  boxes = boxes_in contexts i;
  sizes = (sizes_in w.sizes i).boxes;
  left = (sizes_in w.sizes i).left;
  position = own_place_of medium.viewport contexts w i;
}

abbrev pub place_as : PlaceInput → Option TableInput → StandInput → Input
place_as flow None at = input.Place flow at
place_as flow (Some table) at = input.PlaceTable table at

abbrev pub place_input : Medium → List FormattingContext → Workings → ℕ → Input
place_input medium contexts w i =
    place_as (flow_input medium contexts w i) (option_map (table_input contexts w i) (sizes_in w.sizes i).table)
    (stand_input medium contexts w i)

-- what a task is given, from these values
abbrev pub input_of : Medium → List FormattingContext → Workings → Task → Input
input_of medium contexts w task = by task.phase
  where
    by : Phase → Input
    by phase.Measure = measure_as (is_measured contexts task.context) (measure_input medium contexts w task.context)
    by phase.Size = input.Size (size_input medium contexts w task.context)
    by phase.Place = place_input medium contexts w task.context

abbrev pub value_by : Workings → Phase → ℕ → Value
value_by w phase.Measure i = value.Measure (widths_in w.widths i)
value_by w phase.Size i = value.Size (sizes_in w.sizes i)
value_by w phase.Place i = value.Place (placed_in w.places i)

-- the value of a task among these
abbrev pub value_of_task : Workings → Task → Value
value_of_task w task = value_by w task.phase task.context

-- these values with another one for a formatting context
abbrev pub with_value : Workings → ℕ → Value → Workings
with_value w i (value.Measure widths) = record { widths = slice_set w.widths i widths; sizes = w.sizes; places = w.places }
with_value w i (value.Size sizes) = record { widths = w.widths; sizes = slice_set w.sizes i sizes; places = w.places }
with_value w i (value.Place answer) = record { widths = w.widths; sizes = w.sizes; places = slice_set w.places i answer }

-- the value of this task is right beside what the others give it
abbrev pub IsTaskDone : Medium → List FormattingContext → Workings → Task → Type 0
IsTaskDone medium contexts w task = IsLocal (input_of medium contexts w task) (value_of_task w task)
