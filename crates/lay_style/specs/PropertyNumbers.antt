-- The properties, counted from 0 in the order of the table in docs/PROPERTIES.md, so that two of them
-- are the same exactly where their numbers are.
use Rattle.std.specs.Prelude.{ℕ, ◌==◌, Bool}
use Rattle.lay_style.specs.declared.property.Property.{Property}
use Rattle.lay_style.specs.declared.property.Property.TheVariants.{Display, Position, Float, Clear, Top, Right, Bottom, Left, ZIndex}
use Rattle.lay_style.specs.declared.property.Property.TheVariants.{Width, Height, MinWidth, MinHeight, MaxWidth, MaxHeight, MarginTop}
use Rattle.lay_style.specs.declared.property.Property.TheVariants.{MarginRight, MarginBottom, MarginLeft, PaddingTop, PaddingRight}
use Rattle.lay_style.specs.declared.property.Property.TheVariants.{PaddingBottom, PaddingLeft, BorderTopWidth, BorderRightWidth}
use Rattle.lay_style.specs.declared.property.Property.TheVariants.{BorderBottomWidth, BorderLeftWidth, BorderTopStyle, BorderRightStyle}
use Rattle.lay_style.specs.declared.property.Property.TheVariants.{BorderBottomStyle, BorderLeftStyle, Overflow, FontSize, LineHeight}
use Rattle.lay_style.specs.declared.property.Property.TheVariants.{TextIndent, TextAlign, WhiteSpace, LetterSpacing, WordSpacing}
use Rattle.lay_style.specs.declared.property.Property.TheVariants.{VerticalAlign, TableLayout, BorderCollapse, BorderSpacing, CaptionSide}
use Rattle.lay_style.specs.declared.property.Property.TheVariants.{Visibility, EmptyCells}

abbrev pub number_of : Property → ℕ
number_of Display = 0
number_of Position = 1
number_of Float = 2
number_of Clear = 3
number_of Top = 4
number_of Right = 5
number_of Bottom = 6
number_of Left = 7
number_of ZIndex = 8
number_of Width = 9
number_of Height = 10
number_of MinWidth = 11
number_of MinHeight = 12
number_of MaxWidth = 13
number_of MaxHeight = 14
number_of MarginTop = 15
number_of MarginRight = 16
number_of MarginBottom = 17
number_of MarginLeft = 18
number_of PaddingTop = 19
number_of PaddingRight = 20
number_of PaddingBottom = 21
number_of PaddingLeft = 22
number_of BorderTopWidth = 23
number_of BorderRightWidth = 24
number_of BorderBottomWidth = 25
number_of BorderLeftWidth = 26
number_of BorderTopStyle = 27
number_of BorderRightStyle = 28
number_of BorderBottomStyle = 29
number_of BorderLeftStyle = 30
number_of Overflow = 31
number_of FontSize = 32
number_of LineHeight = 33
number_of TextIndent = 34
number_of TextAlign = 35
number_of WhiteSpace = 36
number_of LetterSpacing = 37
number_of WordSpacing = 38
number_of VerticalAlign = 39
number_of TableLayout = 40
number_of BorderCollapse = 41
number_of BorderSpacing = 42
number_of CaptionSide = 43
number_of Visibility = 44
number_of EmptyCells = 45

abbrev pub is_same_property : Property → Property → Bool
is_same_property p q = number_of p == number_of q
