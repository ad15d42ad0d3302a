-- What the preferred widths of a context depend on: its boxes, which of them have the left and the right edges of
-- their inline boxes, the preferred widths of the inner contexts, which stand at the places of their boxes, and the
-- face.
use Rattle.std.specs.Prelude.{ℕ, List, slice_index_or}
use Rattle.lay_units.specs.Lengths.{no_length}
use Rattle.lay_box_tree.specs.declared.box_tree.BoxNode.{BoxNode}
use Rattle.lay_box_tree.specs.declared.inline_part.InlinePart.{InlinePart}
use Rattle.lay_box_tree.specs.InlineParts.{no_part}
use Rattle.lay_face.specs.FaceValue.{FaceValue}
use Rattle.lay_measure.specs.declared.preferred_widths.PreferredWidths.{PreferredWidths}

pub record MeasureInValue : Type 0 where
  pub boxes : List BoxNode
  pub parts : List InlinePart
  pub inner : List PreferredWidths
  pub face : FaceValue

abbrev pub no_widths : PreferredWidths
no_widths = record { minimum = no_length; preferred = no_length }

abbrev pub part_at : MeasureInValue → ℕ → InlinePart
part_at m k = slice_index_or m.parts k no_part

-- the preferred widths of the inner context at k
abbrev pub inner_at : MeasureInValue → ℕ → PreferredWidths
inner_at m k = slice_index_or m.inner k no_widths
