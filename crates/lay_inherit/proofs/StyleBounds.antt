-- Computed styles whose lengths are within their bounds.
use Rattle.std.proofs.Common.{◌≡◌, ℕ, zero, suc, ◌<◌, ◌≤◌, List, [], ◌∷◌, length, get_or, refl, sym, arith, subst, inl, inr}
use Rattle.std.proofs.lemmas.Int.{ints}
use Rattle.std.proofs.lemmas.Bool.{cases_lt}
use Rattle.lay_units.specs.declared.length.Unit.{Unit as Length}
use Rattle.lay_style.specs.declared.property.Property.TheVariants.{Top, Right, Bottom, Left, Width, Height, MinWidth, MinHeight, MaxWidth, MaxHeight, MarginTop, MarginRight, MarginBottom, MarginLeft, PaddingTop, PaddingRight, PaddingBottom, PaddingLeft, BorderTopWidth, BorderRightWidth, BorderBottomWidth, BorderLeftWidth, FontSize, LineHeight, TextIndent, LetterSpacing, WordSpacing, VerticalAlign, BorderSpacing}
use Rattle.lay_style.specs.declared.style.Edges.{Edges}
use Rattle.lay_style.specs.declared.style.Sizing.{Sizing}
use Rattle.lay_style.specs.declared.style.TextStyle.{TextStyle}
use Rattle.lay_style.specs.declared.style.Style.{Style}
use Rattle.lay_style.specs.declared.style_words.BorderStyle.{BorderStyle}
use Rattle.lay_style.specs.declared.style_words.BorderStyle.TheVariants as border
use Rattle.lay_style.specs.declared.style_lengths.LengthPercentageOrAuto.{LengthPercentageOrAuto}
use Rattle.lay_style.specs.declared.style_lengths.LengthPercentage.{LengthPercentage}
use Rattle.lay_style.specs.Values.{Declaration}
use Rattle.lay_style.specs.Inheritance.{cascaded}
use Rattle.lay_style.specs.LengthValues.{px, offset_of, size_or_auto_of, size_measure_of, size_or_none_of, indent_of, spacing_of, border_width_of, font_size_of, line_height_of, vertical_align_of, border_spacing_of}
use Rattle.lay_style.specs.InitialStyle.{initial_style}
use Rattle.lay_style.specs.ComputedStyle.{HasStyles, font_size, offsets, margins, paddings, width_of_style, border_styles, border_widths, sizing, text_style, styled, computed_style, style_at, parent_style, declarations_at}
use Rattle.lay_doc.specs.Tree.{IsTree}
use Rattle.lay_inherit.specs.StylesFit.{UsedSizeFits, LengthFits, OffsetFits, SizeOrAutoFits, SizeMeasureFits, SizeOrNoneFits, IndentFits, LineHeightFits, VerticalAlignFits, SpacingFits, SidesFit, SizingFits, TextFits, StyleFits, StylesFit}
use Rattle.lay_inherit.proofs.ValuesFit.{cascaded_fits, offset_fits, size_or_auto_fits, size_measure_fits, size_or_none_fits, indent_fits, spacing_fits, border_width_fits, font_size_fits, line_height_fits, vertical_align_fits, border_spacing_fits}

px_fits : (n : ℕ) → n ≤ 16 → UsedSizeFits (px n)
px_fits n le = (omega (arith, ints), omega (arith, ints))

initial_fits : StyleFits initial_style
initial_fits = record {
  offset = record { top = tt; right = tt; bottom = tt; left = tt };
  sizing = record { width = tt; height = tt; min_width = px_fits 0 (omega arith); min_height = px_fits 0 (omega arith); max_width = tt; max_height = tt };
  margin = record { top = (omega (arith, ints), omega (arith, ints)); right = (omega (arith, ints), omega (arith, ints)); bottom = (omega (arith, ints), omega (arith, ints)); left = (omega (arith, ints), omega (arith, ints)) };
  padding = record { top = px_fits 0 (omega arith); right = px_fits 0 (omega arith); bottom = px_fits 0 (omega arith); left = px_fits 0 (omega arith) };
  border = record { top = px_fits 3 (omega arith); right = px_fits 3 (omega arith); bottom = px_fits 3 (omega arith); left = px_fits 3 (omega arith) };
  text = record { font_size = px_fits 16 (omega arith); line_height = tt; text_indent = (omega (arith, ints), omega (arith, ints)); letter_spacing = (omega (arith, ints), omega (arith, ints)); word_spacing = (omega (arith, ints), omega (arith, ints)); vertical_align = tt };
  border_spacing = record { horizontal = px_fits 0 (omega arith); vertical = px_fits 0 (omega arith) };
}

offsets_fit : (font : Length) (parent initial : Edges LengthPercentageOrAuto) (ds : List Declaration) → SidesFit OffsetFits parent → SidesFit OffsetFits initial → SidesFit OffsetFits (offsets font parent initial ds)
offsets_fit font parent initial ds of_parent of_initial = record {
  top = cascaded_fits OffsetFits Top ds parent.top initial.top (offset_of font) of_parent.top of_initial.top (offset_fits font);
  right = cascaded_fits OffsetFits Right ds parent.right initial.right (offset_of font) of_parent.right of_initial.right (offset_fits font);
  bottom = cascaded_fits OffsetFits Bottom ds parent.bottom initial.bottom (offset_of font) of_parent.bottom of_initial.bottom (offset_fits font);
  left = cascaded_fits OffsetFits Left ds parent.left initial.left (offset_of font) of_parent.left of_initial.left (offset_fits font);
}

margins_fit : (font : Length) (parent initial : Edges LengthPercentageOrAuto) (ds : List Declaration) → SidesFit OffsetFits parent → SidesFit OffsetFits initial → SidesFit OffsetFits (margins font parent initial ds)
margins_fit font parent initial ds of_parent of_initial = record {
  top = cascaded_fits OffsetFits MarginTop ds parent.top initial.top (offset_of font) of_parent.top of_initial.top (offset_fits font);
  right = cascaded_fits OffsetFits MarginRight ds parent.right initial.right (offset_of font) of_parent.right of_initial.right (offset_fits font);
  bottom = cascaded_fits OffsetFits MarginBottom ds parent.bottom initial.bottom (offset_of font) of_parent.bottom of_initial.bottom (offset_fits font);
  left = cascaded_fits OffsetFits MarginLeft ds parent.left initial.left (offset_of font) of_parent.left of_initial.left (offset_fits font);
}

paddings_fit : (font : Length) (parent initial : Edges LengthPercentage) (ds : List Declaration) → SidesFit SizeMeasureFits parent → SidesFit SizeMeasureFits initial → SidesFit SizeMeasureFits (paddings font parent initial ds)
paddings_fit font parent initial ds of_parent of_initial = record {
  top = cascaded_fits SizeMeasureFits PaddingTop ds parent.top initial.top (size_measure_of font) of_parent.top of_initial.top (size_measure_fits font);
  right = cascaded_fits SizeMeasureFits PaddingRight ds parent.right initial.right (size_measure_of font) of_parent.right of_initial.right (size_measure_fits font);
  bottom = cascaded_fits SizeMeasureFits PaddingBottom ds parent.bottom initial.bottom (size_measure_of font) of_parent.bottom of_initial.bottom (size_measure_fits font);
  left = cascaded_fits SizeMeasureFits PaddingLeft ds parent.left initial.left (size_measure_of font) of_parent.left of_initial.left (size_measure_fits font);
}

none_fits : UsedSizeFits (px 0)
none_fits = px_fits 0 (omega arith)

of_style_fits : (style : BorderStyle) (w : Length) → UsedSizeFits w → UsedSizeFits (width_of_style style w)
of_style_fits border.None w of_width = none_fits
of_style_fits border.Hidden w of_width = none_fits
of_style_fits _ w of_width = of_width

border_widths_fit : (font : Length) (style : Edges BorderStyle) (parent initial : Edges Length) (ds : List Declaration) → SidesFit UsedSizeFits parent → SidesFit UsedSizeFits initial → SidesFit UsedSizeFits (border_widths font style parent initial ds)
border_widths_fit font style parent initial ds of_parent of_initial = record {
  top = of_style_fits style.top (cascaded BorderTopWidth ds parent.top initial.top (border_width_of font)) (cascaded_fits UsedSizeFits BorderTopWidth ds parent.top initial.top (border_width_of font) of_parent.top of_initial.top (border_width_fits font));
  right = of_style_fits style.right (cascaded BorderRightWidth ds parent.right initial.right (border_width_of font)) (cascaded_fits UsedSizeFits BorderRightWidth ds parent.right initial.right (border_width_of font) of_parent.right of_initial.right (border_width_fits font));
  bottom = of_style_fits style.bottom (cascaded BorderBottomWidth ds parent.bottom initial.bottom (border_width_of font)) (cascaded_fits UsedSizeFits BorderBottomWidth ds parent.bottom initial.bottom (border_width_of font) of_parent.bottom of_initial.bottom (border_width_fits font));
  left = of_style_fits style.left (cascaded BorderLeftWidth ds parent.left initial.left (border_width_of font)) (cascaded_fits UsedSizeFits BorderLeftWidth ds parent.left initial.left (border_width_of font) of_parent.left of_initial.left (border_width_fits font));
}

sizing_fits : (font : Length) (parent initial : Sizing) (ds : List Declaration) → SizingFits parent → SizingFits initial → SizingFits (sizing font parent initial ds)
sizing_fits font parent initial ds of_parent of_initial = record {
  width = cascaded_fits SizeOrAutoFits Width ds parent.width initial.width (size_or_auto_of font) of_parent.width of_initial.width (size_or_auto_fits font);
  height = cascaded_fits SizeOrAutoFits Height ds parent.height initial.height (size_or_auto_of font) of_parent.height of_initial.height (size_or_auto_fits font);
  min_width = cascaded_fits SizeMeasureFits MinWidth ds parent.min_width initial.min_width (size_measure_of font) of_parent.min_width of_initial.min_width (size_measure_fits font);
  min_height = cascaded_fits SizeMeasureFits MinHeight ds parent.min_height initial.min_height (size_measure_of font) of_parent.min_height of_initial.min_height (size_measure_fits font);
  max_width = cascaded_fits SizeOrNoneFits MaxWidth ds parent.max_width initial.max_width (size_or_none_of font) of_parent.max_width of_initial.max_width (size_or_none_fits font);
  max_height = cascaded_fits SizeOrNoneFits MaxHeight ds parent.max_height initial.max_height (size_or_none_of font) of_parent.max_height of_initial.max_height (size_or_none_fits font);
}

text_fits : (font : Length) (parent initial : TextStyle) (ds : List Declaration) → UsedSizeFits font → TextFits parent → TextFits initial → TextFits (text_style font parent initial ds)
text_fits font parent initial ds of_font of_parent of_initial = record {
  font_size = of_font;
  line_height = cascaded_fits LineHeightFits LineHeight ds parent.line_height initial.line_height (line_height_of font) of_parent.line_height of_initial.line_height (line_height_fits font);
  text_indent = cascaded_fits IndentFits TextIndent ds parent.text_indent initial.text_indent (indent_of font) of_parent.text_indent of_initial.text_indent (indent_fits font);
  letter_spacing = cascaded_fits LengthFits LetterSpacing ds parent.letter_spacing initial.letter_spacing (spacing_of font) of_parent.letter_spacing of_initial.letter_spacing (spacing_fits font);
  word_spacing = cascaded_fits LengthFits WordSpacing ds parent.word_spacing initial.word_spacing (spacing_of font) of_parent.word_spacing of_initial.word_spacing (spacing_fits font);
  vertical_align = cascaded_fits VerticalAlignFits VerticalAlign ds parent.vertical_align initial.vertical_align (vertical_align_of font) of_parent.vertical_align of_initial.vertical_align (vertical_align_fits font);
}

styled_fits : (font : Length) (parent initial : Style) (ds : List Declaration) → UsedSizeFits font → StyleFits parent → StyleFits initial → StyleFits (styled font parent initial ds)
styled_fits font parent initial ds of_font of_parent of_initial = record {
  offset = offsets_fit font parent.offset initial.offset ds of_parent.offset of_initial.offset;
  sizing = sizing_fits font parent.sizing initial.sizing ds of_parent.sizing of_initial.sizing;
  margin = margins_fit font parent.margin initial.margin ds of_parent.margin of_initial.margin;
  padding = paddings_fit font parent.padding initial.padding ds of_parent.padding of_initial.padding;
  border = border_widths_fit font (border_styles parent.border.style initial.border.style ds) parent.border.width initial.border.width ds of_parent.border of_initial.border;
  text = text_fits font parent.text initial.text ds of_font of_parent.text of_initial.text;
  border_spacing = cascaded_fits SpacingFits BorderSpacing ds parent.table.border_spacing initial.table.border_spacing (border_spacing_of font) of_parent.border_spacing of_initial.border_spacing (border_spacing_fits font);
}

computed_fits : (parent : Style) (ds : List Declaration) → StyleFits parent → StyleFits (computed_style parent ds)
computed_fits parent ds of_parent =
    let of_font : UsedSizeFits (font_size parent.text.font_size ds) = cascaded_fits UsedSizeFits FontSize ds parent.text.font_size (px 16) (font_size_of parent.text.font_size) of_parent.text.font_size (px_fits 16 (omega arith)) (font_size_fits parent.text.font_size) in
    styled_fits (font_size parent.text.font_size ds) parent initial_style ds of_font of_parent initial_fits

parent_fits : (parents : List ℕ) (styles : List Style) → IsTree parents → (k : ℕ) → k < length parents → ((j : ℕ) → j < k → StyleFits (style_at styles j)) → StyleFits (parent_style parents styles k)
parent_fits parents styles tree zero within earlier = initial_fits
parent_fits parents styles tree (suc k) within earlier = earlier (get_or parents (suc k) 0) (tree.before (suc k) (omega arith) within)

-- the styles before n fit, since each rests on its parent's
fit_to : (parents : List ℕ) (decls : List (List Declaration)) (styles : List Style) → IsTree parents → HasStyles parents decls styles → (n : ℕ) → n ≤ length parents → (k : ℕ) → k < n → StyleFits (style_at styles k)
fit_to parents decls styles tree has zero le k lt = absurd (omega arith)
fit_to parents decls styles tree has (suc n) le k lt =
    subst StyleFits (sym (has.each k (omega arith))) (computed_fits (parent_style parents styles k) (declarations_at decls k)
    (parent_fits parents styles tree k (omega arith) (λ j jl. fit_to parents decls styles tree has n (omega arith) j (omega arith))))

behind : (styles : List Style) (k : ℕ) → length styles ≤ k → style_at styles k ≡ initial_style
behind [] k le = refl
behind (s ∷ ss) zero le = absurd (omega arith)
behind (s ∷ ss) (suc k) le = behind ss k (omega arith)

pub styles_fit_lem : StylesFit
styles_fit_lem parents decls styles tree has k = elim (cases_lt k (length parents)) [
  | inl low ↦ fit_to parents decls styles tree has (length parents) (omega arith) k low
  | inr high ↦ subst StyleFits (sym (behind styles k (omega (arith, has.length_is)))) initial_fits
]
