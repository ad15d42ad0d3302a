-- The values that each property takes, as the table in docs/PROPERTIES.md has them.
-- A length is in 1/64 px and at most 2^31 units from 0; an em or a number is in thousandths and at most
-- 10^12 of them from 0; a percentage is in hundredths and at most 2^30 of them from 0.
use Rattle.std.specs.Prelude.{ℕ, ◌^◌, ℤ, pos, neg_ℤ, int_le, Bool, true, false, ◌&&◌, Option, Some, None, if◌then◌else◌}
use Rattle.std.specs.Int.{int_rem_euclid}
use Rattle.std.specs.Ordering.{int_eq}
use Rattle.lay_style.specs.declared.property.Property.{Property}
use Rattle.lay_style.specs.declared.property.Property.TheVariants.{Display, Position, Float, Clear, Top, Right, Bottom, Left, ZIndex}
use Rattle.lay_style.specs.declared.property.Property.TheVariants.{Width, Height, MinWidth, MinHeight, MaxWidth, MaxHeight, MarginTop}
use Rattle.lay_style.specs.declared.property.Property.TheVariants.{MarginRight, MarginBottom, MarginLeft, PaddingTop, PaddingRight}
use Rattle.lay_style.specs.declared.property.Property.TheVariants.{PaddingBottom, PaddingLeft, BorderTopWidth, BorderRightWidth}
use Rattle.lay_style.specs.declared.property.Property.TheVariants.{BorderBottomWidth, BorderLeftWidth, BorderTopStyle, BorderRightStyle}
use Rattle.lay_style.specs.declared.property.Property.TheVariants.{BorderBottomStyle, BorderLeftStyle, Overflow, FontSize, LineHeight}
use Rattle.lay_style.specs.declared.property.Property.TheVariants.{TextIndent, TextAlign, WhiteSpace, LetterSpacing, WordSpacing}
use Rattle.lay_style.specs.declared.property.Property.TheVariants.{VerticalAlign, TableLayout, BorderCollapse, BorderSpacing, CaptionSide}
use Rattle.lay_style.specs.declared.property.Property.TheVariants.{Visibility, EmptyCells}
use Rattle.lay_style.specs.declared.property.Word.{Word}
use Rattle.lay_style.specs.declared.property.OneLength.{OneLength}
use Rattle.lay_style.specs.declared.property.OneLength.TheVariants.{Length as one_length, Em as one_em}
use Rattle.lay_style.specs.declared.property.Given.{Given}
use Rattle.lay_style.specs.declared.property.Given.TheVariants.{Keyword, Length, Em, Percent, Number, Pair, Inherit}
use Rattle.lay_style.specs.Words.{is_display, is_position, is_float, is_clear, is_auto, is_none, is_border_width, is_border_style}
use Rattle.lay_style.specs.Words.{is_overflow, is_font_size, is_normal, is_text_align, is_white_space, is_vertical_align}
use Rattle.lay_style.specs.Words.{is_table_layout, is_border_collapse, is_caption_side, is_visibility, is_empty_cells}

-- the keywords of a property, but for `inherit`
abbrev pub takes_word : Property → Word → Bool
takes_word Display w = is_display w
takes_word Position w = is_position w
takes_word Float w = is_float w
takes_word Clear w = is_clear w
takes_word Top w = is_auto w
takes_word Right w = is_auto w
takes_word Bottom w = is_auto w
takes_word Left w = is_auto w
takes_word ZIndex w = is_auto w
takes_word Width w = is_auto w
takes_word Height w = is_auto w
takes_word MaxWidth w = is_none w
takes_word MaxHeight w = is_none w
takes_word MarginTop w = is_auto w
takes_word MarginRight w = is_auto w
takes_word MarginBottom w = is_auto w
takes_word MarginLeft w = is_auto w
takes_word BorderTopWidth w = is_border_width w
takes_word BorderRightWidth w = is_border_width w
takes_word BorderBottomWidth w = is_border_width w
takes_word BorderLeftWidth w = is_border_width w
takes_word BorderTopStyle w = is_border_style w
takes_word BorderRightStyle w = is_border_style w
takes_word BorderBottomStyle w = is_border_style w
takes_word BorderLeftStyle w = is_border_style w
takes_word Overflow w = is_overflow w
takes_word FontSize w = is_font_size w
takes_word LineHeight w = is_normal w
takes_word TextAlign w = is_text_align w
takes_word WhiteSpace w = is_white_space w
takes_word LetterSpacing w = is_normal w
takes_word WordSpacing w = is_normal w
takes_word VerticalAlign w = is_vertical_align w
takes_word TableLayout w = is_table_layout w
takes_word BorderCollapse w = is_border_collapse w
takes_word CaptionSide w = is_caption_side w
takes_word Visibility w = is_visibility w
takes_word EmptyCells w = is_empty_cells w
takes_word _ w = false

-- which numbers a property takes of one kind
pub data Numbers : Type 0 where
  no_number : Numbers
  from_zero : Numbers
  any_number : Numbers

-- the lengths of a property, in 1/64 px or in em
abbrev pub lengths_of : Property → Numbers
lengths_of Top = any_number
lengths_of Right = any_number
lengths_of Bottom = any_number
lengths_of Left = any_number
lengths_of Width = from_zero
lengths_of Height = from_zero
lengths_of MinWidth = from_zero
lengths_of MinHeight = from_zero
lengths_of MaxWidth = from_zero
lengths_of MaxHeight = from_zero
lengths_of MarginTop = any_number
lengths_of MarginRight = any_number
lengths_of MarginBottom = any_number
lengths_of MarginLeft = any_number
lengths_of PaddingTop = from_zero
lengths_of PaddingRight = from_zero
lengths_of PaddingBottom = from_zero
lengths_of PaddingLeft = from_zero
lengths_of BorderTopWidth = from_zero
lengths_of BorderRightWidth = from_zero
lengths_of BorderBottomWidth = from_zero
lengths_of BorderLeftWidth = from_zero
lengths_of FontSize = from_zero
lengths_of LineHeight = from_zero
lengths_of TextIndent = any_number
lengths_of LetterSpacing = any_number
lengths_of WordSpacing = any_number
lengths_of VerticalAlign = any_number
lengths_of BorderSpacing = from_zero
lengths_of _ = no_number

-- the percentages of a property: borders and spacings have none
abbrev pub percentages_of : Property → Numbers
percentages_of BorderTopWidth = no_number
percentages_of BorderRightWidth = no_number
percentages_of BorderBottomWidth = no_number
percentages_of BorderLeftWidth = no_number
percentages_of LetterSpacing = no_number
percentages_of WordSpacing = no_number
percentages_of BorderSpacing = no_number
percentages_of p = lengths_of p

abbrev pub is_number_within : Numbers → ℕ → ℤ → Bool
is_number_within no_number limit v = false
is_number_within from_zero limit v = int_le (pos 0) v && int_le v (pos limit)
is_number_within any_number limit v = int_le (neg_ℤ (pos limit)) v && int_le v (pos limit)

-- a whole number, in thousandths
abbrev pub is_whole : ℤ → Bool
is_whole v = int_eq (int_rem_euclid v (pos 1000)) (pos 0)

abbrev pub is_number_of : Property → ℤ → Bool
is_number_of ZIndex v = is_number_within any_number (10 ^ 12) v && is_whole v
is_number_of LineHeight v = is_number_within from_zero (10 ^ 12) v
is_number_of _ v = false

abbrev pub is_spacing : OneLength → Bool
is_spacing (one_length u) = is_number_within from_zero (2 ^ 31) u.0
is_spacing (one_em e) = is_number_within from_zero (10 ^ 12) e

abbrev pub is_pair_of : Property → OneLength → OneLength → Bool
is_pair_of BorderSpacing a b = is_spacing a && is_spacing b
is_pair_of _ a b = false

-- whether the property takes this value
abbrev pub is_value_of : Property → Given → Bool
is_value_of p (Keyword w) = takes_word p w
is_value_of p (Length u) = is_number_within (lengths_of p) (2 ^ 31) u.0
is_value_of p (Em e) = is_number_within (lengths_of p) (10 ^ 12) e
is_value_of p (Percent h) = is_number_within (percentages_of p) (2 ^ 30) h.0
is_value_of p (Number n) = is_number_of p n
is_value_of p (Pair a b) = is_pair_of p a b
is_value_of p Inherit = true

-- a property and a value of it, as contracts see a declaration
pub record Declaration : Type 0 where
  pub property : Property
  pub value : Given

-- the declaration, where the value is one of the property's
abbrev pub declaration_of : Property → Given → Option Declaration
declaration_of p v = if is_value_of p v then Some (record { property = p; value = v }) else None
