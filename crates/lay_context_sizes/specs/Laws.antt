-- Beside what a formatting context is given it has preferred widths and used sizes of its boxes, and these alone. Preferred widths
-- count for the sizes of what shrinks to fit alone, and the bounds of a table for one of the automatic layout alone.
use Rattle.std.specs.Prelude.{◌≡◌, Bool, true, false}
use Rattle.lay_box_tree.specs.ContextBoxes.{AreContextBoxes}
use Rattle.lay_context_sizes.specs.ContextSizes.{SizedContext, HasSizes}
use Rattle.lay_context_sizes.specs.ContextWidths.{IsMeasured}
use Rattle.lay_context_sizes.specs.Inputs.{MeasureInput, SizeInput}
use Rattle.lay_context_sizes.specs.MeasuredContexts.{MeasuredContext}
use Rattle.lay_context_sizes.specs.ShrinkToFit.{shrinks_to_fit}
use Rattle.lay_context_sizes.specs.declared.setting.Setting.{Setting}
use Rattle.lay_context_sizes.specs.declared.setting.Setting.TheVariants.{Absolute}

-- beside what it is given a formatting context has one pair of preferred widths
abbrev pub OneContextWidths : Type 0
OneContextWidths = (i : MeasureInput) (v w : MeasuredContext) → IsMeasured i v → IsMeasured i w → v ≡ w

-- the boxes of a formatting context have one column of used sizes
abbrev pub OneContextSizes : Type 0
OneContextSizes = (i : SizeInput) (x y : SizedContext) → AreContextBoxes i.boxes → HasSizes i x → HasSizes i y → x ≡ y

abbrev pub is_absolute_setting : Setting → Bool
is_absolute_setting (Absolute s) = true
is_absolute_setting _ = false

abbrev pub with_measured : SizeInput → MeasuredContext → SizeInput
with_measured i m = record { boxes = i.boxes; measured = m; setting = i.setting }

-- where the own box neither shrinks to fit nor is absolutely positioned, its preferred widths don't count
abbrev pub WidthsCountWhereShrunk : Type 0
WidthsCountWhereShrunk = (i : SizeInput) (m : MeasuredContext) (sized : SizedContext)
    → shrinks_to_fit i.boxes ≡ false → is_absolute_setting i.setting ≡ false
    → HasSizes i sized → HasSizes (with_measured i m) sized

-- a formatting context has preferred widths, whatever is in it
abbrev pub SomeContextWidths : Type 0
SomeContextWidths = (i : MeasureInput) → (m : MeasuredContext) × IsMeasured i m

-- and its boxes have used sizes in any setting, whatever preferred widths it is given
abbrev pub SomeContextSizes : Type 0
SomeContextSizes = (i : SizeInput) → AreContextBoxes i.boxes → (sized : SizedContext) × HasSizes i sized
