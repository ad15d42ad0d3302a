-- Used offsets, margins and sizes of absolutely positioned boxes (CSS 2.2, 10.3.7 and 10.6.4), with text from left to
-- right. Offsets, margins, borders, paddings and the size fill the containing block, across and down alike; the cases
-- say which of them are as given, and the equation gives the one that is left. Down, left and right stand for top and
-- bottom, and width for height. A box that is 10px wide in a containing block of 100px, with all else auto and its
-- static position at 20px, stands at 20px, and its right is 70px.
use Rattle.std.specs.Prelude.{◌≡◌, ℤ, pos, ◌+ℤ◌, ◌-ℤ◌, ◌≤ℤ◌, ◌<ℤ◌, int_lt, if◌then◌else◌}
use Rattle.lay_units.specs.Units.{clamp_of, clamp_size_of, half_of}
use Rattle.lay_units.specs.declared.records.Len.{Len}
use Rattle.lay_units.specs.declared.records.Len.TheVariants.{Auto as auto, Of as of}
use Rattle.lay_units.specs.declared.records.AbsOut.{AbsOut}
use Rattle.lay_units.specs.declared.records.BlockIn.{BlockIn}
use Rattle.lay_widths.specs.Lengths.{or_zero, edges_of, together}
use Rattle.lay_widths.specs.FloatWidths.{shrink_to_fit_of}
use Rattle.lay_widths.specs.MinMax.{IsBounded}
use Rattle.lay_abspos.specs.declared.axis.Axis.{Axis}
use Rattle.lay_abspos.specs.declared.axis.ContentSize.{ContentSize}
use Rattle.lay_abspos.specs.declared.axis.ContentSize.TheVariants.{Shrinks as shrinks, Stands as stands}
use Rattle.lay_abspos.specs.declared.axis.Offsets.{Offsets}

-- left + margin-left + border-left + padding-left + width + padding-right + border-right + margin-right + right
abbrev pub across : BlockIn → Offsets → ℤ
across b used = used.left +ℤ used.margin_left +ℤ edges_of b +ℤ used.width +ℤ used.margin_right +ℤ used.right

-- the same without borders and paddings
abbrev pub filled_by : Offsets → ℤ
filled_by used = used.left +ℤ used.margin_left +ℤ used.width +ℤ used.margin_right +ℤ used.right

-- what a width could be beside these offsets, where auto margins are zero
abbrev pub available_beside : BlockIn → ℤ → ℤ → ℤ
available_beside b left right = b.containing_width.0 -ℤ (left +ℤ together b (pos 0) +ℤ right)

-- an auto size that goes by the content: it shrinks to fit across, and is the content's height down
abbrev pub content_size_of : ContentSize → ℤ → ℤ
content_size_of (shrinks minimum preferred) available = shrink_to_fit_of minimum.0 available preferred.0
content_size_of (stands height) available = height.0

abbrev pub fitting : Axis → ℤ → ℤ → ℤ
fitting a left right = content_size_of a.content (available_beside a.block left right)

-- auto margins are zero
pub record HasGivenMargins (b : BlockIn) (used : Offsets) : Type 0 where
  pub margin_left : used.margin_left ≡ or_zero b.margin_left
  pub margin_right : used.margin_right ≡ or_zero b.margin_right

-- margin-left where two auto margins share the rest: they are equal, margin-left rounded down; across, where the rest is
-- negative, margin-left is zero
abbrev pub first_share_of : ContentSize → ℤ → ℤ
first_share_of (shrinks minimum preferred) rest = if int_lt rest (pos 0) then pos 0 else half_of rest
first_share_of (stands height) rest = half_of rest

-- left, width and right are given: an auto margin follows, and two share the rest; with none right is ignored and follows
abbrev pub GivenAll : Axis → Len → Len → ℤ → Offsets → Type 0
GivenAll a auto auto right used =
    (used.right ≡ right)
    × (used.margin_left ≡ first_share_of a.content (available_beside a.block used.left right -ℤ used.width))
GivenAll a auto (of margin) right used = (used.right ≡ right) × (used.margin_right ≡ margin.0)
GivenAll a (of margin) auto right used = (used.right ≡ right) × (used.margin_left ≡ margin.0)
GivenAll a (of left) (of right) _ used = (used.margin_left ≡ left.0) × (used.margin_right ≡ right.0)

-- the cases of 10.3.7 and 10.6.4, by which of left, width and right are auto
abbrev pub Cases : Axis → Len → Len → Len → Offsets → Type 0
-- all three: left is the static position, and width and right are as in case 3
Cases a auto auto auto used =
    HasGivenMargins a.block used × (used.left ≡ a.static_left.0) × (used.width ≡ fitting a a.static_left.0 (pos 0))
-- none
Cases a (of left) (of width) (of right) used =
    (used.left ≡ left.0) × (used.width ≡ width.0) × GivenAll a a.block.margin_left a.block.margin_right right.0 used
-- 1. left and width: the width goes by the content, and left follows
Cases a auto auto (of right) used =
    HasGivenMargins a.block used × (used.right ≡ right.0) × (used.width ≡ fitting a (pos 0) right.0)
-- 2. left and right: left is the static position, and right follows
Cases a auto (of width) auto used =
    HasGivenMargins a.block used × (used.left ≡ a.static_left.0) × (used.width ≡ width.0)
-- 3. width and right: the width goes by the content, and right follows
Cases a (of left) auto auto used =
    HasGivenMargins a.block used × (used.left ≡ left.0) × (used.width ≡ fitting a left.0 (pos 0))
-- 4. left follows
Cases a auto (of width) (of right) used =
    HasGivenMargins a.block used × (used.width ≡ width.0) × (used.right ≡ right.0)
-- 5. the width follows; where nothing is left for it, it is zero, and right follows
Cases a (of left) auto (of right) used =
    HasGivenMargins a.block used × (used.left ≡ left.0)
    × (pos 0 ≤ℤ available_beside a.block left.0 right.0 → used.right ≡ right.0)
    × (available_beside a.block left.0 right.0 <ℤ pos 0 → used.width ≡ pos 0)
-- 6. right follows
Cases a (of left) (of width) auto used =
    HasGivenMargins a.block used × (used.left ≡ left.0) × (used.width ≡ width.0)

-- what the rules give for a computed size
pub record SolvesAxis (a : Axis) (computed : Len) (used : Offsets) : Type 0 where
  pub equation : across a.block used ≡ a.block.containing_width.0
  pub cases : Cases a a.left computed a.right used

abbrev pub axis_width_in : Offsets → ℤ
axis_width_in used = used.width

-- offsets, margins and size, held within the bounds of used lengths
pub record AreHeldOffsets (used : Offsets) (out : AbsOut) : Type 0 where
  pub left : out.left.0 ≡ clamp_of used.left
  pub margin_left : out.margin_left.0 ≡ clamp_of used.margin_left
  pub width : out.width.0 ≡ clamp_size_of used.width
  pub margin_right : out.margin_right.0 ≡ clamp_of used.margin_right
  pub right : out.right.0 ≡ clamp_of used.right

-- the used offsets, margins and size of an absolutely positioned box along one axis
pub record IsUsedAxis (a : Axis) (out : AbsOut) : Type 0 where
  pub used : Offsets
  pub bounded : IsBounded axis_width_in (SolvesAxis a) a.block.width a.block.min_width a.block.max_width used
  pub held : AreHeldOffsets used out
