-- Content of the lines of a formatting context is that of the boxes which a task of it is given.
use Rattle.std.proofs.Common.{ℕ, Bool, true, false, List, Option, None, Some, option_map}
use Rattle.lay_line_items.specs.InlineContents.{AreContents, KeptSegments}
use Rattle.lay_flow_boxes.specs.PlaceInputs.{PlaceInput}
use Rattle.lay_table.specs.TableInputs.{TableInput}
use Rattle.lay_abspos.specs.OwnOffsets.{StandInput}
use Rattle.lay_contexts.specs.FormattingContexts.{FormattingContext, boxes_in}
use Rattle.lay_context_sizes.specs.Inputs.{MeasureInput}
use Rattle.lay_context.specs.declared.task.Phase.{Phase}
use Rattle.lay_context.specs.declared.task.Phase.TheVariants.{Measure, Size, Place}
use Rattle.lay_context.specs.declared.task.Task.{Task}
use Rattle.lay_context.specs.Local.{flow_input, input_of, measure_as, measure_input, place_as, stand_input, table_input}
use Rattle.lay_context.specs.Measured.{is_measured}
use Rattle.lay_context.specs.Medium.{Medium}
use Rattle.lay_context.specs.Settings.{sizes_in}
use Rattle.lay_context.specs.GivenContents.{AreContentsOf}
use Rattle.lay_context.specs.Workings.{Workings}

of_measured : (b : Bool) (i : MeasureInput) (kept : KeptSegments) → AreContents i.face i.boxes kept → AreContentsOf (measure_as b i) kept
of_measured true i kept are = are
of_measured false i kept are = tt

of_placed : (flow : PlaceInput) (table : Option TableInput) (at : StandInput) (kept : KeptSegments) → AreContents flow.face flow.boxes kept → AreContentsOf (place_as flow table at) kept
of_placed flow None at kept are = are
of_placed flow (Some table) at kept are = tt

module _ (medium : Medium) (contexts : List FormattingContext) (w : Workings) where
  of_phase : (phase : Phase) (i : ℕ) (kept : KeptSegments) → AreContents medium.face (boxes_in contexts i) kept → AreContentsOf (input_of medium contexts w (record { context = i; phase = phase })) kept
  of_phase Measure i kept are = of_measured (is_measured contexts i) (measure_input medium contexts w i) kept are
  of_phase Size i kept are = tt
  of_phase Place i kept are = of_placed (flow_input medium contexts w i) (option_map (table_input contexts w i) (sizes_in w.sizes i).table) (stand_input medium contexts w i) kept are

  pub of_task : (task : Task) (kept : KeptSegments) → AreContents medium.face (boxes_in contexts task.context) kept → AreContentsOf (input_of medium contexts w task) kept
  of_task task kept are = of_phase task.phase task.context kept are
