-- The boxes of one context as they look from outside: those of inner contexts are known from there, and of the others the used
-- sizes are (CSS 2.2, 8.1).
use Rattle.std.specs.Prelude.{ℕ, List, None, if◌then◌else◌}
use Rattle.lay_units.specs.Lengths.{no_length}
use Rattle.lay_box_tree.specs.declared.box_tree.BoxNode.{BoxNode}
use Rattle.lay_sizes.specs.declared.own_boxes.OwnBox.{OwnBox}
use Rattle.lay_sizes.specs.declared.sizing.BoxSizes.{BoxSizes}
use Rattle.lay_sizes.specs.OwnBoxes.{own_box, own_box_at}
use Rattle.lay_sizes.specs.SizeColumns.{sizes_at}
use Rattle.lay_box_tree.specs.ContextBoxes.{is_inner}

-- the box at k: that of an inner context is as this says, and the height and the baseline of another aren't known yet
abbrev pub outside : List BoxNode → List BoxSizes → List OwnBox → ℕ → OwnBox
outside boxes sizes inner k = if is_inner boxes k then own_box_at inner k else own_box (sizes_at sizes k) no_length None
