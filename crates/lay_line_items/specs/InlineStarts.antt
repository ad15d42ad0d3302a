-- Which starts of inline boxes take room in their lines (CSS 2.2, 8.3 to 8.6 and 9.2.1.1). 8.6: "the left-most generated
-- box of the first line box in which the element appears has the left margin, left border and left padding". So the first
-- part of an inline box takes room where it starts if one of these isn't 0, and a later one never does. That is asked of
-- their computed values, since content is known before used ones are: a percentage other than 0% may come to nothing.
use Rattle.std.specs.Prelude.{ℕ, Bool, false, ◌&&◌, ◌||◌, List}
use Rattle.lay_units.specs.Lengths.{is_nonzero}
use Rattle.lay_style.specs.declared.style.Style.{Style}
use Rattle.lay_style.specs.declared.style_lengths.LengthPercentage.{LengthPercentage}
use Rattle.lay_style.specs.declared.style_lengths.LengthPercentage.TheVariants as measure
use Rattle.lay_style.specs.declared.style_lengths.LengthPercentageOrAuto.{LengthPercentageOrAuto}
use Rattle.lay_style.specs.declared.style_lengths.LengthPercentageOrAuto.TheVariants as or_auto
use Rattle.lay_box_tree.specs.declared.box_tree.BoxNode.{BoxNode}
use Rattle.lay_box_tree.specs.InlineParts.{is_first_part}

-- an auto margin of an inline box is 0 (10.3.1)
abbrev pub is_margin : LengthPercentageOrAuto → Bool
is_margin or_auto.Auto = false
is_margin (or_auto.Length u) = is_nonzero u.0
is_margin (or_auto.Percent h) = is_nonzero h.0

abbrev pub is_padding : LengthPercentage → Bool
is_padding (measure.Length u) = is_nonzero u.0
is_padding (measure.Percent h) = is_nonzero h.0

-- its left margin, border or padding isn't 0
abbrev pub has_left_edge : Style → Bool
has_left_edge s = is_margin s.margin.left || is_nonzero s.border.width.left.0 || is_padding s.padding.left

-- the start of this inline box, which is that at k, takes room
abbrev pub takes_room : List BoxNode → ℕ → BoxNode → Bool
takes_room boxes k b = is_first_part boxes k && has_left_edge b.style
