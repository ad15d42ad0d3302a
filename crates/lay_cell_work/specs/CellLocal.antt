-- One cell by itself: which values are right beside what it is given. Each of its parts is right beside what its root is given, with what
-- the other parts give that root: preferred widths, own boxes and pieces of the roots in it, and the containing block by the root around
-- it (CSS 2.2, 10.1). Which part is right is said by `IsLocal`, the same of all formatting contexts.
use Rattle.std.specs.Prelude.{ℕ, ◌≡◌, List, [], length, map, slice_get, slice_index_or, Option, None, Some}
use Rattle.lay_units.specs.declared.records.Len.TheVariants.{Auto as auto}
use Rattle.lay_box_tree.specs.declared.box_tree.BoxNode.{BoxNode}
use Rattle.lay_measure.specs.MeasureInValue.{no_widths}
use Rattle.lay_sizes.specs.OwnBoxes.{no_own_box}
use Rattle.lay_context_sizes.specs.declared.setting.Setting.{Setting}
use Rattle.lay_context_sizes.specs.declared.setting.Setting.TheVariants.{Block}
use Rattle.lay_context.specs.declared.input.Input.{Input}
use Rattle.lay_context.specs.declared.input.Input.TheVariants as input
use Rattle.lay_context.specs.Local.{IsLocal}
use Rattle.lay_context.specs.Settings.{setting_in, sizes_in}
use Rattle.lay_units.specs.Lengths.{no_length}
use Rattle.lay_cell_work.specs.declared.root_spot.RootSpot.{RootSpot}
use Rattle.lay_cell_work.specs.CellColumns.{filled, masked}
use Rattle.lay_cell_work.specs.CellInputs.{CellInput, RootInput}
use Rattle.lay_cell_work.specs.CellValues.{CellValue, own_boxes, own_pieces, own_sizes, own_widths, phase_of, root_count_of, root_value}

-- the boxes that a root is sized with
abbrev pub sized_boxes : Input → List BoxNode
sized_boxes (input.Size i) = i.boxes
sized_boxes _ = []

abbrev pub boxes_given : List RootInput → ℕ → List BoxNode
boxes_given roots r = slice_index_or (map (λ x. sized_boxes x.given) roots) r []

-- the setting of a box in the root around it, which is of the same cell
abbrev pub setting_at : List RootInput → CellValue → RootSpot → Setting
setting_at roots v spot = setting_in (boxes_given roots spot.root) (sizes_in (own_sizes v) spot.root) spot.place

-- in place of the setting of an anonymous root, which its cell isn't given
abbrev pub no_setting : Setting
no_setting = Block (record { width = no_length; height = auto })

abbrev pub masked_setting : Option RootSpot → Setting → Setting
masked_setting None s = s
masked_setting (Some spot) s = no_setting

abbrev pub filled_setting : List RootInput → CellValue → Option RootSpot → Setting → Setting
filled_setting roots v None s = s
filled_setting roots v (Some spot) s = setting_at roots v spot

-- what the task of a root is given, without what other roots of its cell give it
abbrev pub masked_input : List (Option ℕ) → Option RootSpot → Input → Input
masked_input links around (input.Measure i) = input.Measure (record i { inner = masked no_widths links i.inner })
masked_input links around input.Unmeasured = input.Unmeasured
masked_input links around (input.Size i) = input.Size (record i { setting = masked_setting around i.setting })
masked_input links around (input.Place i at) =
    input.Place (record i { inner = masked no_own_box links i.inner; pieces = masked [] links i.pieces }) at
masked_input links around (input.PlaceTable i at) =
    input.PlaceTable (record i { inner = masked no_own_box links i.inner; pieces = masked [] links i.pieces }) at

-- and with what these have in the value of the cell
abbrev pub filled_input : List RootInput → CellValue → List (Option ℕ) → Option RootSpot → Input → Input
filled_input roots v links around (input.Measure i) = input.Measure (record i { inner = filled no_widths (own_widths v) links i.inner })
filled_input roots v links around input.Unmeasured = input.Unmeasured
filled_input roots v links around (input.Size i) = input.Size (record i { setting = filled_setting roots v around i.setting })
filled_input roots v links around (input.Place i at) =
    input.Place (record i { inner = filled no_own_box (own_boxes v) links i.inner; pieces = filled [] (own_pieces v) links i.pieces }) at
filled_input roots v links around (input.PlaceTable i at) =
    input.PlaceTable
    (record i { inner = filled no_own_box (own_boxes v) links i.inner; pieces = filled [] (own_pieces v) links i.pieces }) at

-- what a root is given in all, where its cell answers this
abbrev pub whole_input : List RootInput → CellValue → RootInput → Input
whole_input roots v x = filled_input roots v x.links x.around x.given

-- the value is right beside what its cell is given
pub record IsCellLocal (i : CellInput) (v : CellValue) : Type 0 where
  pub phase : phase_of v ≡ i.key.phase
  pub count : root_count_of v ≡ length i.roots
  pub each : (r : ℕ) (x : RootInput) → slice_get i.roots r ≡ Some x → IsLocal (whole_input i.roots v x) (root_value v r)
