-- What is said of an absolutely positioned box beside what it is given from outside has a value, and one alone: its sizes and
-- its offset (CSS 2.2, 10.3.7, 10.3.8 and 10.6.4).
use Rattle.std.specs.Prelude.{◌≡◌, Option}
use Rattle.lay_units.specs.declared.length.Unit.{Unit as Length}
use Rattle.lay_style.specs.declared.style.Style.{Style}
use Rattle.lay_box_tree.specs.declared.box_tree.BoxNode.{BoxNode}
use Rattle.lay_sizes.specs.declared.sizing.BoxSizes.{BoxSizes}
use Rattle.lay_placements.specs.declared.corner.Corner.{Corner}
use Rattle.lay_abspos.specs.declared.setting.AbsoluteSetting.{AbsoluteSetting}
use Rattle.lay_abspos.specs.AbsoluteSizes.{IsAbsoluteSized, IsStretchedHeight}
use Rattle.lay_abspos.specs.AbsoluteTables.{IsTableLeft}
use Rattle.lay_abspos.specs.Offsets.{IsOffset}

abbrev pub OneAbsoluteSizes : Type 0
OneAbsoluteSizes = (s : AbsoluteSetting) (own : BoxNode) (minimum preferred : Length) (x y : BoxSizes) (a b : Length)
    → IsAbsoluteSized s own minimum preferred x a → IsAbsoluteSized s own minimum preferred y b → (x ≡ y) × (a ≡ b)

abbrev pub OneStretchedHeight : Type 0
OneStretchedHeight = (s : AbsoluteSetting) (own : BoxNode) (x y : Option Length) → IsStretchedHeight s own x
    → IsStretchedHeight s own y → x ≡ y

abbrev pub OneTableLeft : Type 0
OneTableLeft = (s : AbsoluteSetting) (style : Style) (width x y : Length) → IsTableLeft s style width x
    → IsTableLeft s style width y → x ≡ y

abbrev pub OneOffset : Type 0
OneOffset = (s : AbsoluteSetting) (own : BoxNode) (left height : Length) (x y : Corner)
    → IsOffset s own left height x → IsOffset s own left height y → x ≡ y

abbrev pub SomeAbsoluteSizes : Type 0
SomeAbsoluteSizes = (s : AbsoluteSetting) (own : BoxNode) (minimum preferred : Length)
    → (z : BoxSizes) × (left : Length) × IsAbsoluteSized s own minimum preferred z left

abbrev pub SomeStretchedHeight : Type 0
SomeStretchedHeight = (s : AbsoluteSetting) (own : BoxNode) → (height : Option Length) × IsStretchedHeight s own height

abbrev pub SomeTableLeft : Type 0
SomeTableLeft = (s : AbsoluteSetting) (style : Style) (width : Length) → (left : Length) × IsTableLeft s style width left

abbrev pub SomeOffset : Type 0
SomeOffset = (s : AbsoluteSetting) (own : BoxNode) (left height : Length) → (corner : Corner) × IsOffset s own left height corner
