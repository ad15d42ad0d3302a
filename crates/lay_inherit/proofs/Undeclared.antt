-- Properties that are not declared.
use Rattle.std.proofs.Common.{◌≡◌, ℕ, Bool, true, false, ◌==◌, ◌≤◌, nat_le, List, [], ◌∷◌, None, refl, sym, ◌∙◌, arith, true≢false}
use Rattle.std.proofs.lemmas.Bool.{eqb-true, le-leb, or_parts}
use Rattle.std.specs.List.{list_any}
use Rattle.lay_units.specs.declared.length.Unit.{Unit as Length}
use Rattle.lay_style.specs.declared.property.Property.{Property}
use Rattle.lay_style.specs.declared.property.Property.TheVariants.{Top, Right, Bottom, Left, Width, Height, MinWidth, MinHeight, MaxWidth, MaxHeight, MarginTop, MarginRight, MarginBottom, MarginLeft, PaddingTop, PaddingRight, PaddingBottom, PaddingLeft, BorderTopWidth, BorderRightWidth, BorderBottomWidth, BorderLeftWidth, BorderTopStyle, BorderRightStyle, BorderBottomStyle, BorderLeftStyle, LineHeight, TextIndent, TextAlign, WhiteSpace, LetterSpacing, WordSpacing, VerticalAlign, TableLayout, BorderCollapse, BorderSpacing, CaptionSide, EmptyCells}
use Rattle.lay_style.specs.declared.style.Edges.{Edges}
use Rattle.lay_style.specs.declared.style.Sizing.{Sizing}
use Rattle.lay_style.specs.declared.style.TextStyle.{TextStyle}
use Rattle.lay_style.specs.declared.style.TableStyle.{TableStyle}
use Rattle.lay_style.specs.declared.style_words.BorderStyle.{BorderStyle}
use Rattle.lay_style.specs.declared.style_lengths.LengthPercentage.{LengthPercentage}
use Rattle.lay_style.specs.declared.style_lengths.LengthPercentageOrAuto.{LengthPercentageOrAuto}
use Rattle.lay_style.specs.Declarations.{declared_value}
use Rattle.lay_style.specs.PropertyNumbers.{number_of, is_same_property}
use Rattle.lay_style.specs.Values.{Declaration}
use Rattle.lay_style.specs.ComputedStyle.{border_styles, border_widths, margins, offsets, paddings, sizing, table_style, text_style}
use Rattle.lay_inherit.specs.Within.{is_within, widths_of_styles}

-- a declaration that is not within is of none of the properties within
apart : (first last n : ℕ) (d : Declaration) → first ≤ n → n ≤ last → is_within first last d ≡ false → (b : Bool) → (n == number_of d.property) ≡ b → b ≡ false
apart first last n d low high out false e = refl
apart first last n d low high out true e =
    let same : n ≡ number_of d.property = eqb-true n (number_of d.property) e in
    let above : nat_le first (number_of d.property) ≡ true = le-leb first (number_of d.property) (omega (arith, same, low)) in
    let below : nat_le (number_of d.property) last ≡ true = le-leb (number_of d.property) last (omega (arith, same, high)) in
    let within : is_within first last d ≡ true = simp (above, below) refl in
    absurd (true≢false (sym within ∙ out))

pub undeclared : (first last : ℕ) (ds : List Declaration) → list_any (is_within first last) ds ≡ false → (p : Property) → first ≤ number_of p → number_of p ≤ last → declared_value p ds ≡ None
undeclared first last [] none p low high = refl
undeclared first last (d ∷ ds) none p low high =
    let other : is_same_property p d.property ≡ false =
    apart first last (number_of p) d low high (or_parts (is_within first last d) (list_any (is_within first last) ds) none).0 (is_same_property p d.property) refl in
    let step : declared_value p (d ∷ ds) ≡ declared_value p ds = simp other refl in
    step ∙ undeclared first last ds (or_parts (is_within first last d) (list_any (is_within first last) ds) none).1 p low high

module _ (font : Length) (ds : List Declaration) where
  pub no_offsets : (parent initial : Edges LengthPercentageOrAuto) → list_any (is_within 4 7) ds ≡ false → offsets font parent initial ds ≡ initial
  no_offsets parent initial none =
      let u = λ (p : Property). undeclared 4 7 ds none p in
      simp (u Top (omega arith) (omega arith), u Right (omega arith) (omega arith), u Bottom (omega arith) (omega arith), u Left (omega arith) (omega arith)) refl

  pub no_margins : (parent initial : Edges LengthPercentageOrAuto) → list_any (is_within 15 18) ds ≡ false → margins font parent initial ds ≡ initial
  no_margins parent initial none =
      let u = λ (p : Property). undeclared 15 18 ds none p in
      simp (u MarginTop (omega arith) (omega arith), u MarginRight (omega arith) (omega arith), u MarginBottom (omega arith) (omega arith), u MarginLeft (omega arith) (omega arith)) refl

  pub no_paddings : (parent initial : Edges LengthPercentage) → list_any (is_within 19 22) ds ≡ false → paddings font parent initial ds ≡ initial
  no_paddings parent initial none =
      let u = λ (p : Property). undeclared 19 22 ds none p in
      simp (u PaddingTop (omega arith) (omega arith), u PaddingRight (omega arith) (omega arith), u PaddingBottom (omega arith) (omega arith), u PaddingLeft (omega arith) (omega arith)) refl

  pub no_border_styles : (parent initial : Edges BorderStyle) → list_any (is_within 27 30) ds ≡ false → border_styles parent initial ds ≡ initial
  no_border_styles parent initial none =
      let u = λ (p : Property). undeclared 27 30 ds none p in
      simp (u BorderTopStyle (omega arith) (omega arith), u BorderRightStyle (omega arith) (omega arith), u BorderBottomStyle (omega arith) (omega arith), u BorderLeftStyle (omega arith) (omega arith)) refl

  pub no_border_widths : (style : Edges BorderStyle) (parent initial : Edges Length) → list_any (is_within 23 26) ds ≡ false → border_widths font style parent initial ds ≡ widths_of_styles style initial
  no_border_widths style parent initial none =
      let u = λ (p : Property). undeclared 23 26 ds none p in
      simp (u BorderTopWidth (omega arith) (omega arith), u BorderRightWidth (omega arith) (omega arith), u BorderBottomWidth (omega arith) (omega arith), u BorderLeftWidth (omega arith) (omega arith)) refl

  pub no_sizing : (parent initial : Sizing) → list_any (is_within 9 14) ds ≡ false → sizing font parent initial ds ≡ initial
  no_sizing parent initial none =
      let u = λ (p : Property). undeclared 9 14 ds none p in
      simp (u Width (omega arith) (omega arith), u Height (omega arith) (omega arith), u MinWidth (omega arith) (omega arith), u MinHeight (omega arith) (omega arith), u MaxWidth (omega arith) (omega arith), u MaxHeight (omega arith) (omega arith)) refl

  pub no_text_style : (parent initial : TextStyle) → list_any (is_within 33 39) ds ≡ false → text_style font parent initial ds ≡ record parent { font_size = font; vertical_align = initial.vertical_align }
  no_text_style parent initial none =
      let u = λ (p : Property). undeclared 33 39 ds none p in
      simp (u LineHeight (omega arith) (omega arith), u TextIndent (omega arith) (omega arith), u TextAlign (omega arith) (omega arith), u WhiteSpace (omega arith) (omega arith), u LetterSpacing (omega arith) (omega arith), u WordSpacing (omega arith) (omega arith), u VerticalAlign (omega arith) (omega arith)) refl

  pub no_table_style : (parent initial : TableStyle) → list_any (is_within 40 45) ds ≡ false → table_style font parent initial ds ≡ record parent { layout = initial.layout }
  no_table_style parent initial none =
      let u = λ (p : Property). undeclared 40 45 ds none p in
      simp (u TableLayout (omega arith) (omega arith), u BorderCollapse (omega arith) (omega arith), u BorderSpacing (omega arith) (omega arith), u CaptionSide (omega arith) (omega arith), u EmptyCells (omega arith) (omega arith)) refl
