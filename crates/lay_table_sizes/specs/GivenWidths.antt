-- The widths that columns and column groups are given (CSS 2.2, 17.5.2.2): the `width` of their elements, where that is a length. The
-- width of the table isn't known yet, so a percentage counts as `auto`.
use Rattle.std.specs.Prelude.{ℕ, zero, suc, ◌++◌, Option, Some, None, List, [], ◌∷◌, slice_get}
use Rattle.lay_units.specs.declared.length.Unit.{Unit as Length}
use Rattle.lay_style.specs.LengthValues.{size_of}
use Rattle.lay_style.specs.declared.style.Style.{Style}
use Rattle.lay_style.specs.declared.style_lengths.LengthPercentageOrAuto.{LengthPercentageOrAuto}
use Rattle.lay_style.specs.declared.style_lengths.LengthPercentageOrAuto.TheVariants as or_auto
use Rattle.lay_box_tree.specs.declared.box_tree.BoxKind.{BoxKind}
use Rattle.lay_box_tree.specs.declared.box_tree.BoxKind.TheVariants as kind
use Rattle.lay_box_tree.specs.declared.box_tree.BoxNode.{BoxNode}

abbrev pub length_or_none : LengthPercentageOrAuto → Option Length
length_or_none or_auto.Auto = None
length_or_none (or_auto.Length u) = Some (size_of u.0)
length_or_none (or_auto.Percent h) = None

-- of a column, and of a column group
abbrev pub column_width_by : BoxKind → Style → Option Length
column_width_by (kind.Column span) s = length_or_none s.sizing.width
column_width_by _ s = None

abbrev pub group_width_by : BoxKind → Style → Option Length
group_width_by (kind.ColumnGroup span) s = length_or_none s.sizing.width
group_width_by _ s = None

abbrev pub column_width_of : Option BoxNode → Option Length
column_width_of None = None
column_width_of (Some b) = column_width_by b.kind b.style

abbrev pub group_width_of : Option BoxNode → Option Length
group_width_of None = None
group_width_of (Some b) = group_width_by b.kind b.style

-- of the column for which the box at this place stands, if one does
abbrev pub width_at_place : List BoxNode → Option ℕ → Option Length
width_at_place boxes None = None
width_at_place boxes (Some place) = column_width_of (slice_get boxes place)

-- those of the first n columns, where the boxes at these places stand for the first ones
abbrev pub column_widths : List BoxNode → List ℕ → ℕ → List (Option Length)
column_widths boxes places zero = []
column_widths boxes places (suc n) = column_widths boxes places n ++ width_at_place boxes (slice_get places n) ∷ []
