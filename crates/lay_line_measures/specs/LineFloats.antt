-- Floats that stand in the content of lines (CSS 2.2, 9.5 and 9.5.1): a float is as large as its margin box and stands
-- between the content edges of the container.
use Rattle.std.specs.Prelude.{ℕ, Option, Some, None, slice_get}
use Rattle.lay_units.specs.Lengths.{no_length}
use Rattle.lay_style.specs.declared.style_words.Clear.{Clear as ClearStyle}
use Rattle.lay_style.specs.declared.style_words.Clear.TheVariants as clear
use Rattle.lay_box_tree.specs.Roles.{role_of, clear_of_box}
use Rattle.lay_box_tree.specs.declared.box_role.Role.{Role}
use Rattle.lay_box_tree.specs.declared.box_role.Role.TheVariants as role
use Rattle.lay_box_tree.specs.declared.box_tree.BoxNode.{BoxNode}
use Rattle.lay_floats.specs.declared.requests.Clear.{Clear}
use Rattle.lay_floats.specs.declared.requests.Clear.TheVariants as sides
use Rattle.lay_floats.specs.declared.requests.FloatReq.{FloatReq}
use Rattle.lay_floats.specs.declared.requests.Side.{Side}
use Rattle.lay_floats.specs.declared.requests.Side.TheVariants as side
use Rattle.lay_sizes.specs.declared.own_boxes.OwnBox.{OwnBox}
use Rattle.lay_sizes.specs.OwnBoxes.{margin_height, margin_width, own_box_at}
use Rattle.lay_lines.specs.declared.content.content.LineFloat.{LineFloat}
use Rattle.lay_line_measures.specs.declared.container.Container.{Container}
use Rattle.lay_line_measures.specs.BoxMeasuresValue.{BoxMeasuresValue}

abbrev pub side_as : Role → Side
side_as role.RightFloat = side.Right
side_as _ = side.Left

abbrev pub side_in : Option BoxNode → Side
side_in None = side.Left
side_in (Some b) = side_as (role_of b)

abbrev pub cleared_float_sides : ClearStyle → Clear
cleared_float_sides clear.None = sides.None
cleared_float_sides clear.Left = sides.Left
cleared_float_sides clear.Right = sides.Right
cleared_float_sides clear.Both = sides.Both

abbrev pub clear_in : Option BoxNode → Clear
clear_in None = sides.None
clear_in (Some b) = cleared_float_sides (clear_of_box b)

-- What a float of these asks for. Its ceiling comes from its line.
abbrev pub request_of : Side → Clear → OwnBox → Container → FloatReq
request_of side clear o c = record {
  side = side;
  width = record { 0 = margin_width o };
  height = record { 0 = margin_height o };
  left = c.left;
  right = c.right;
  ceiling = no_length;
  clear = clear;
}

-- the float at k
abbrev pub float_at : BoxMeasuresValue → Container → ℕ → LineFloat
float_at m c k = record {
  node = k;
  req = request_of (side_in (slice_get m.boxes k)) (clear_in (slice_get m.boxes k)) (own_box_at m.inner k) c;
}
