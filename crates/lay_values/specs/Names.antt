-- The properties by their names, which are written just as they stand here (CSS 2.2, 4.1.8 and appendix F).
-- A name that differs in a letter's case or in a white space is no property's.
use Rattle.std.specs.Prelude.{ℕ, ◌==◌, List, [], ◌∷◌, length, filter, Option, codes, find}
use Rattle.std.specs.Str.{bytes_eq}
use Rattle.lay_style.specs.declared.property.Property.{Property}
use Rattle.lay_style.specs.declared.property.Property.TheVariants.{Display, Position, Float, Clear, Top, Right, Bottom, Left, ZIndex}
use Rattle.lay_style.specs.declared.property.Property.TheVariants.{Width, Height, MinWidth, MinHeight, MaxWidth, MaxHeight, MarginTop}
use Rattle.lay_style.specs.declared.property.Property.TheVariants.{MarginRight, MarginBottom, MarginLeft, PaddingTop, PaddingRight}
use Rattle.lay_style.specs.declared.property.Property.TheVariants.{PaddingBottom, PaddingLeft, BorderTopWidth, BorderRightWidth}
use Rattle.lay_style.specs.declared.property.Property.TheVariants.{BorderBottomWidth, BorderLeftWidth, BorderTopStyle, BorderRightStyle}
use Rattle.lay_style.specs.declared.property.Property.TheVariants.{BorderBottomStyle, BorderLeftStyle, Overflow, FontSize, LineHeight}
use Rattle.lay_style.specs.declared.property.Property.TheVariants.{TextIndent, TextAlign, WhiteSpace, LetterSpacing, WordSpacing}
use Rattle.lay_style.specs.declared.property.Property.TheVariants.{VerticalAlign, TableLayout, BorderCollapse, BorderSpacing, CaptionSide}
use Rattle.lay_style.specs.declared.property.Property.TheVariants.{Visibility, EmptyCells}

abbrev pub name_of : Property → List ℕ
name_of Display = codes "display"
name_of Position = codes "position"
name_of Float = codes "float"
name_of Clear = codes "clear"
name_of Top = codes "top"
name_of Right = codes "right"
name_of Bottom = codes "bottom"
name_of Left = codes "left"
name_of ZIndex = codes "z-index"
name_of Width = codes "width"
name_of Height = codes "height"
name_of MinWidth = codes "min-width"
name_of MinHeight = codes "min-height"
name_of MaxWidth = codes "max-width"
name_of MaxHeight = codes "max-height"
name_of MarginTop = codes "margin-top"
name_of MarginRight = codes "margin-right"
name_of MarginBottom = codes "margin-bottom"
name_of MarginLeft = codes "margin-left"
name_of PaddingTop = codes "padding-top"
name_of PaddingRight = codes "padding-right"
name_of PaddingBottom = codes "padding-bottom"
name_of PaddingLeft = codes "padding-left"
name_of BorderTopWidth = codes "border-top-width"
name_of BorderRightWidth = codes "border-right-width"
name_of BorderBottomWidth = codes "border-bottom-width"
name_of BorderLeftWidth = codes "border-left-width"
name_of BorderTopStyle = codes "border-top-style"
name_of BorderRightStyle = codes "border-right-style"
name_of BorderBottomStyle = codes "border-bottom-style"
name_of BorderLeftStyle = codes "border-left-style"
name_of Overflow = codes "overflow"
name_of FontSize = codes "font-size"
name_of LineHeight = codes "line-height"
name_of TextIndent = codes "text-indent"
name_of TextAlign = codes "text-align"
name_of WhiteSpace = codes "white-space"
name_of LetterSpacing = codes "letter-spacing"
name_of WordSpacing = codes "word-spacing"
name_of VerticalAlign = codes "vertical-align"
name_of TableLayout = codes "table-layout"
name_of BorderCollapse = codes "border-collapse"
name_of BorderSpacing = codes "border-spacing"
name_of CaptionSide = codes "caption-side"
name_of Visibility = codes "visibility"
name_of EmptyCells = codes "empty-cells"

unfoldable pub all_properties : List Property
all_properties =
    Display ∷ Position ∷ Float ∷ Clear ∷ Top ∷ Right ∷ Bottom ∷ Left ∷ ZIndex ∷ Width ∷ Height ∷
    MinWidth ∷ MinHeight ∷ MaxWidth ∷ MaxHeight ∷ MarginTop ∷ MarginRight ∷ MarginBottom ∷
    MarginLeft ∷ PaddingTop ∷ PaddingRight ∷ PaddingBottom ∷ PaddingLeft ∷ BorderTopWidth ∷
    BorderRightWidth ∷ BorderBottomWidth ∷ BorderLeftWidth ∷ BorderTopStyle ∷ BorderRightStyle ∷
    BorderBottomStyle ∷ BorderLeftStyle ∷ Overflow ∷ FontSize ∷ LineHeight ∷ TextIndent ∷
    TextAlign ∷ WhiteSpace ∷ LetterSpacing ∷ WordSpacing ∷ VerticalAlign ∷ TableLayout ∷
    BorderCollapse ∷ BorderSpacing ∷ CaptionSide ∷ Visibility ∷ EmptyCells ∷ []

-- those whose names have this length
abbrev pub of_length : ℕ → List Property
of_length n = filter (λ p. length (name_of p) == n) all_properties

-- the property that has this name
abbrev pub property_of : List ℕ → Option Property
property_of name = find (λ p. bytes_eq (name_of p) name) all_properties
