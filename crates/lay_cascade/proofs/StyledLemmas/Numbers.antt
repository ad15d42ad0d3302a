-- The numbers of properties: each is below 46, and each number below 46 is that of a property.
use Rattle.std.proofs.Common.{◌≡◌, ℕ, ◌<◌, List, [], ◌∷◌, true, refl, arith}
use Rattle.std.specs.Prelude.{◌==◌, slice_index_or}
use Rattle.std.proofs.lemmas.Bool.{agree_below_at, eqb-true}
use Rattle.lay_style.specs.declared.property.Property.{Property}
use Rattle.lay_style.specs.declared.property.Property.TheVariants.{Display, Position, Float, Clear, Top, Right, Bottom, Left, ZIndex, Width, Height, MinWidth, MinHeight, MaxWidth, MaxHeight, MarginTop, MarginRight, MarginBottom, MarginLeft, PaddingTop, PaddingRight, PaddingBottom, PaddingLeft, BorderTopWidth, BorderRightWidth, BorderBottomWidth, BorderLeftWidth, BorderTopStyle, BorderRightStyle, BorderBottomStyle, BorderLeftStyle, Overflow, FontSize, LineHeight, TextIndent, TextAlign, WhiteSpace, LetterSpacing, WordSpacing, VerticalAlign, TableLayout, BorderCollapse, BorderSpacing, CaptionSide, Visibility, EmptyCells}
use Rattle.lay_style.specs.PropertyNumbers.{number_of}

all_properties : List Property
all_properties =
    Display ∷ Position ∷ Float ∷ Clear ∷ Top ∷ Right ∷ Bottom ∷ Left ∷ ZIndex ∷ Width ∷ Height ∷ MinWidth ∷ MinHeight ∷ MaxWidth ∷ MaxHeight ∷ MarginTop ∷ MarginRight ∷ MarginBottom ∷ MarginLeft ∷ PaddingTop ∷ PaddingRight ∷ PaddingBottom ∷ PaddingLeft ∷ BorderTopWidth ∷ BorderRightWidth ∷ BorderBottomWidth ∷ BorderLeftWidth ∷ BorderTopStyle ∷ BorderRightStyle ∷ BorderBottomStyle ∷ BorderLeftStyle ∷ Overflow ∷ FontSize ∷ LineHeight ∷ TextIndent ∷ TextAlign ∷ WhiteSpace ∷ LetterSpacing ∷ WordSpacing ∷ VerticalAlign ∷ TableLayout ∷ BorderCollapse ∷ BorderSpacing ∷ CaptionSide ∷ Visibility ∷ EmptyCells ∷ []

pub property_at : ℕ → Property
property_at i = slice_index_or all_properties i EmptyCells

pub number_at : (i : ℕ) → i < 46 → number_of (property_at i) ≡ i
unfolding property_at all_properties
number_at i h = eqb-true (number_of (property_at i)) i (agree_below_at (λ j. number_of (property_at j) == j) (λ j. true) 46 i refl h)

pub number_below : (p : Property) → number_of p < 46
number_below Display = omega arith
number_below Position = omega arith
number_below Float = omega arith
number_below Clear = omega arith
number_below Top = omega arith
number_below Right = omega arith
number_below Bottom = omega arith
number_below Left = omega arith
number_below ZIndex = omega arith
number_below Width = omega arith
number_below Height = omega arith
number_below MinWidth = omega arith
number_below MinHeight = omega arith
number_below MaxWidth = omega arith
number_below MaxHeight = omega arith
number_below MarginTop = omega arith
number_below MarginRight = omega arith
number_below MarginBottom = omega arith
number_below MarginLeft = omega arith
number_below PaddingTop = omega arith
number_below PaddingRight = omega arith
number_below PaddingBottom = omega arith
number_below PaddingLeft = omega arith
number_below BorderTopWidth = omega arith
number_below BorderRightWidth = omega arith
number_below BorderBottomWidth = omega arith
number_below BorderLeftWidth = omega arith
number_below BorderTopStyle = omega arith
number_below BorderRightStyle = omega arith
number_below BorderBottomStyle = omega arith
number_below BorderLeftStyle = omega arith
number_below Overflow = omega arith
number_below FontSize = omega arith
number_below LineHeight = omega arith
number_below TextIndent = omega arith
number_below TextAlign = omega arith
number_below WhiteSpace = omega arith
number_below LetterSpacing = omega arith
number_below WordSpacing = omega arith
number_below VerticalAlign = omega arith
number_below TableLayout = omega arith
number_below BorderCollapse = omega arith
number_below BorderSpacing = omega arith
number_below CaptionSide = omega arith
number_below Visibility = omega arith
number_below EmptyCells = omega arith
