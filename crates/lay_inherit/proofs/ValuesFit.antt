-- What is computed of a given value is within its bounds.
use Rattle.std.proofs.Common.{ℤ, pos, ◌*ℤ◌, arith, Bool, true, false, Option, Some, None, List}
use Rattle.std.proofs.lemmas.Int.{ints, clamps}
use Rattle.lay_units.specs.declared.length.Unit.{Unit as Length}
use Rattle.lay_units.specs.Units.{clamp_of, clamp_size_of, floor_div, IsUsed, IsUsedSize}
use Rattle.lay_style.specs.declared.property.Word.TheVariants as word
use Rattle.lay_style.specs.declared.property.OneLength.{OneLength}
use Rattle.lay_style.specs.declared.property.OneLength.TheVariants as one
use Rattle.lay_style.specs.declared.property.Property.{Property}
use Rattle.lay_style.specs.declared.property.Given.{Given}
use Rattle.lay_style.specs.declared.property.Given.TheVariants as given
use Rattle.lay_style.specs.Values.{Declaration}
use Rattle.lay_style.specs.Declarations.{declared_value}
use Rattle.lay_style.specs.Inheritance.{is_inherited, computed_or_inherited, cascaded}
use Rattle.lay_style.specs.LengthValues.{ems_of, percents_of, offset_of, size_or_auto_of, size_measure_of, size_or_none_of, indent_of, spacing_of, border_width_of, font_size_of, line_height_of, vertical_align_of, one_spacing_of, border_spacing_of}
use Rattle.lay_inherit.specs.StylesFit.{LengthFits, UsedSizeFits, OffsetFits, SizeOrAutoFits, SizeMeasureFits, SizeOrNoneFits, IndentFits, LineHeightFits, VerticalAlignFits, SpacingFits}

length_fits : (v : ℤ) → IsUsed (clamp_of v)
length_fits v = (omega (arith, ints, clamps), omega (arith, ints, clamps))

size_fits : (v : ℤ) → IsUsedSize (clamp_size_of v)
size_fits v = (omega (arith, ints, clamps), omega (arith, ints, clamps))

-- what a value comes from fits, and so does the value
from_fits : {A : Type 0} (Fits : A → Type 0) (g : Option Given) (inherited : Bool) (parent initial : A) (computed : Given → A) → Fits parent → Fits initial → ((v : Given) → Fits (computed v)) → Fits (computed_or_inherited g inherited parent initial computed)
from_fits Fits None true parent initial computed of_parent of_initial of_given = of_parent
from_fits Fits None false parent initial computed of_parent of_initial of_given = of_initial
from_fits Fits (Some (given.Keyword w)) inherited parent initial computed of_parent of_initial of_given = of_given (given.Keyword w)
from_fits Fits (Some (given.Length u)) inherited parent initial computed of_parent of_initial of_given = of_given (given.Length u)
from_fits Fits (Some (given.Em e)) inherited parent initial computed of_parent of_initial of_given = of_given (given.Em e)
from_fits Fits (Some (given.Percent h)) inherited parent initial computed of_parent of_initial of_given = of_given (given.Percent h)
from_fits Fits (Some (given.Number n)) inherited parent initial computed of_parent of_initial of_given = of_given (given.Number n)
from_fits Fits (Some (given.Pair a b)) inherited parent initial computed of_parent of_initial of_given = of_given (given.Pair a b)
from_fits Fits (Some given.Inherit) inherited parent initial computed of_parent of_initial of_given = of_parent

pub cascaded_fits : {A : Type 0} (Fits : A → Type 0) (p : Property) (ds : List Declaration) (parent initial : A) (computed : Given → A) → Fits parent → Fits initial → ((v : Given) → Fits (computed v)) → Fits (cascaded p ds parent initial computed)
cascaded_fits Fits p ds parent initial computed of_parent of_initial of_given = from_fits Fits (declared_value p ds) (is_inherited p) parent initial computed of_parent of_initial of_given

pub offset_fits : (font : Length) (v : Given) → OffsetFits (offset_of font v)
offset_fits font (given.Length u) = length_fits u.0
offset_fits font (given.Em e) = length_fits (ems_of e font)
offset_fits font _ = tt

pub size_or_auto_fits : (font : Length) (v : Given) → SizeOrAutoFits (size_or_auto_of font v)
size_or_auto_fits font (given.Length u) = size_fits u.0
size_or_auto_fits font (given.Em e) = size_fits (ems_of e font)
size_or_auto_fits font _ = tt

pub size_measure_fits : (font : Length) (v : Given) → SizeMeasureFits (size_measure_of font v)
size_measure_fits font (given.Length u) = size_fits u.0
size_measure_fits font (given.Em e) = size_fits (ems_of e font)
size_measure_fits font (given.Percent h) = tt
size_measure_fits font _ = (omega (arith, ints), omega (arith, ints))

pub size_or_none_fits : (font : Length) (v : Given) → SizeOrNoneFits (size_or_none_of font v)
size_or_none_fits font (given.Length u) = size_fits u.0
size_or_none_fits font (given.Em e) = size_fits (ems_of e font)
size_or_none_fits font _ = tt

pub indent_fits : (font : Length) (v : Given) → IndentFits (indent_of font v)
indent_fits font (given.Length u) = length_fits u.0
indent_fits font (given.Em e) = length_fits (ems_of e font)
indent_fits font (given.Percent h) = tt
indent_fits font _ = (omega (arith, ints), omega (arith, ints))

pub spacing_fits : (font : Length) (v : Given) → LengthFits (spacing_of font v)
spacing_fits font (given.Length u) = length_fits u.0
spacing_fits font (given.Em e) = length_fits (ems_of e font)
spacing_fits font _ = (omega (arith, ints), omega (arith, ints))

pub border_width_fits : (font : Length) (v : Given) → UsedSizeFits (border_width_of font v)
border_width_fits font (given.Keyword word.Thin) = (omega (arith, ints), omega (arith, ints))
border_width_fits font (given.Keyword word.Thick) = (omega (arith, ints), omega (arith, ints))
border_width_fits font (given.Length u) = size_fits u.0
border_width_fits font (given.Em e) = size_fits (ems_of e font)
border_width_fits font _ = (omega (arith, ints), omega (arith, ints))

pub font_size_fits : (parent : Length) (v : Given) → UsedSizeFits (font_size_of parent v)
font_size_fits parent (given.Keyword word.Larger) = size_fits (floor_div (pos 6 *ℤ parent.0) 5)
font_size_fits parent (given.Keyword word.Smaller) = size_fits (floor_div (pos 5 *ℤ parent.0) 6)
font_size_fits parent (given.Length u) = size_fits u.0
font_size_fits parent (given.Em e) = size_fits (ems_of e parent)
font_size_fits parent (given.Percent h) = size_fits (percents_of h.0 parent)
font_size_fits parent _ = (omega (arith, ints), omega (arith, ints))

pub line_height_fits : (font : Length) (v : Given) → LineHeightFits (line_height_of font v)
line_height_fits font (given.Length u) = size_fits u.0
line_height_fits font (given.Em e) = size_fits (ems_of e font)
line_height_fits font (given.Percent h) = size_fits (percents_of h.0 font)
line_height_fits font _ = tt

pub vertical_align_fits : (font : Length) (v : Given) → VerticalAlignFits (vertical_align_of font v)
vertical_align_fits font (given.Keyword word.Sub) = tt
vertical_align_fits font (given.Keyword word.Super) = tt
vertical_align_fits font (given.Keyword word.Top) = tt
vertical_align_fits font (given.Keyword word.TextTop) = tt
vertical_align_fits font (given.Keyword word.Middle) = tt
vertical_align_fits font (given.Keyword word.Bottom) = tt
vertical_align_fits font (given.Keyword word.TextBottom) = tt
vertical_align_fits font (given.Length u) = length_fits u.0
vertical_align_fits font (given.Em e) = length_fits (ems_of e font)
vertical_align_fits font _ = tt

one_spacing_fits : (font : Length) (v : OneLength) → UsedSizeFits (one_spacing_of font v)
one_spacing_fits font (one.Length u) = size_fits u.0
one_spacing_fits font (one.Em e) = size_fits (ems_of e font)

pub border_spacing_fits : (font : Length) (v : Given) → SpacingFits (border_spacing_of font v)
border_spacing_fits font (given.Length u) = record { horizontal = size_fits u.0; vertical = size_fits u.0 }
border_spacing_fits font (given.Em e) = record { horizontal = size_fits (ems_of e font); vertical = size_fits (ems_of e font) }
border_spacing_fits font (given.Pair a b) = record { horizontal = one_spacing_fits font a; vertical = one_spacing_fits font b }
border_spacing_fits font _ = record { horizontal = (omega (arith, ints), omega (arith, ints)); vertical = (omega (arith, ints), omega (arith, ints)) }
