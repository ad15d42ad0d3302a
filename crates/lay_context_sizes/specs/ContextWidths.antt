-- The preferred widths of one formatting context (CSS 2.2, 10.3.5), beside those of the ones inside it: how narrow its content can
-- be and how wide it would like to be, before anything is known of the room that there will be. Those of a table are by its
-- columns (17.5.2), whose bounds are kept with them where the table is laid out by the automatic algorithm.
use Rattle.std.specs.Prelude.{◌≡◌, Bool, true, false, List}
use Rattle.lay_box_tree.specs.declared.inline_part.InlinePart.{InlinePart}
use Rattle.lay_box_tree.specs.InlineParts.{AreInlineParts}
use Rattle.lay_measure.specs.PreferredWidths.{preferred_of}
use Rattle.lay_measure.specs.declared.preferred_widths.PreferredWidths.{PreferredWidths}
use Rattle.lay_table_sizes.specs.TableBounds.{no_bounds}
use Rattle.lay_table_sizes.specs.TableWidths.{HasTableWidths}
use Rattle.lay_context_sizes.specs.Inputs.{MeasureInput}
use Rattle.lay_context_sizes.specs.MeasuredContexts.{MeasuredContext}
use Rattle.lay_context_sizes.specs.TableContexts.{is_table}

-- these are the widths of boxes in block flow, in a face
pub record HasFlowWidths (i : MeasureInput) (widths : PreferredWidths) : Type 0 where
  -- which parts of inline boxes the boxes are (8.6)
  pub parts : List InlinePart
  pub are_parts : AreInlineParts i.boxes parts
  pub widths_are : widths ≡ preferred_of (record { boxes = i.boxes; parts = parts; inner = i.inner; face = i.face })

abbrev pub IsMeasuredAs : (is_table : Bool) → MeasureInput → MeasuredContext → Type 0
IsMeasuredAs true i m = HasTableWidths i.boxes i.inner m.widths m.table
IsMeasuredAs false i m = HasFlowWidths i m.widths × (m.table ≡ no_bounds)

-- these are the widths of a formatting context that is given this
abbrev pub IsMeasured : MeasureInput → MeasuredContext → Type 0
IsMeasured i m = IsMeasuredAs (is_table i.boxes) i m
