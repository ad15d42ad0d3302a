-- Tables that are absolutely positioned (CSS 2.2, 10.3.7 and 17.5.2): one of auto width shrinks to fit as each table does, also where
-- `left` and `right` are both given. Its margins and offsets are then those of a box of the width that the table has.
use Rattle.std.specs.Prelude.{◌≡◌}
use Rattle.lay_units.specs.declared.length.Unit.{Unit as Length}
use Rattle.lay_units.specs.declared.records.AbsOut.{AbsOut}
use Rattle.lay_units.specs.declared.records.Len.TheVariants.{Of as of}
use Rattle.lay_units.specs.Lengths.{no_length}
use Rattle.lay_style.specs.declared.style.Style.{Style}
use Rattle.lay_abspos.specs.declared.axis.ContentSize.TheVariants.{Shrinks as shrinks}
use Rattle.lay_abspos.specs.AbsoluteAxis.{IsUsedAxis}
use Rattle.lay_abspos.specs.declared.setting.AbsoluteSetting.{AbsoluteSetting}
use Rattle.lay_abspos.specs.AbsoluteAxes.{axis_across, wrapper_across}
use Rattle.lay_abspos.specs.AbsoluteSizes.{border_start}

-- how far the left edge of the wrapper of a table that is so wide is from that of its containing block
pub record IsTableLeft (s : AbsoluteSetting) (style : Style) (width left : Length) : Type 0 where
  pub out : AbsOut
  pub across : IsUsedAxis (axis_across s style (wrapper_across s style (of width)) (shrinks no_length no_length)) out
  pub left_is : left ≡ border_start out
