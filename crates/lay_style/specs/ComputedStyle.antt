-- The computed style of a node (CSS 2.2, 6.1.2): one recursion over parents. Each property's value comes
-- from the node's declaration, its parent's style or its initial value. The font size is computed first,
-- from that of the parent; em lengths of all other properties are taken of it. A side whose border style
-- is `none` or `hidden` has a border of width 0 (8.5.3). For the root the parent's values are the initial
-- ones.
use Rattle.std.specs.Prelude.{ℕ, zero, suc, ◌≡◌, ◌<◌, List, [], length, slice_index, slice_index_or}
use Rattle.lay_units.specs.declared.length.Unit.{Unit as Length}
use Rattle.lay_style.specs.declared.property.Property.TheVariants.{Display, Position, Float, Clear, Top, Right, Bottom, Left, ZIndex}
use Rattle.lay_style.specs.declared.property.Property.TheVariants.{Width, Height, MinWidth, MinHeight, MaxWidth, MaxHeight, MarginTop}
use Rattle.lay_style.specs.declared.property.Property.TheVariants.{MarginRight, MarginBottom, MarginLeft, PaddingTop, PaddingRight}
use Rattle.lay_style.specs.declared.property.Property.TheVariants.{PaddingBottom, PaddingLeft, BorderTopWidth, BorderRightWidth}
use Rattle.lay_style.specs.declared.property.Property.TheVariants.{BorderBottomWidth, BorderLeftWidth, BorderTopStyle, BorderRightStyle}
use Rattle.lay_style.specs.declared.property.Property.TheVariants.{BorderBottomStyle, BorderLeftStyle, Overflow, FontSize, LineHeight}
use Rattle.lay_style.specs.declared.property.Property.TheVariants.{TextIndent, TextAlign, WhiteSpace, LetterSpacing, WordSpacing}
use Rattle.lay_style.specs.declared.property.Property.TheVariants.{VerticalAlign, TableLayout, BorderCollapse, BorderSpacing, CaptionSide}
use Rattle.lay_style.specs.declared.property.Property.TheVariants.{Visibility, EmptyCells}
use Rattle.lay_style.specs.declared.style.Edges.{Edges}
use Rattle.lay_style.specs.declared.style.Borders.{Borders}
use Rattle.lay_style.specs.declared.style.Sizing.{Sizing}
use Rattle.lay_style.specs.declared.style.TextStyle.{TextStyle}
use Rattle.lay_style.specs.declared.style.TableStyle.{TableStyle}
use Rattle.lay_style.specs.declared.style.Style.{Style}
use Rattle.lay_style.specs.declared.style_words.BorderStyle.{BorderStyle}
use Rattle.lay_style.specs.declared.style_words.BorderStyle.TheVariants as border
use Rattle.lay_style.specs.declared.style_lengths.LengthPercentage.{LengthPercentage}
use Rattle.lay_style.specs.declared.style_lengths.LengthPercentageOrAuto.{LengthPercentageOrAuto}
use Rattle.lay_style.specs.Values.{Declaration}
use Rattle.lay_style.specs.Inheritance.{cascaded}
use Rattle.lay_style.specs.KeywordValues.{display_of, position_of, float_of, clear_of, border_style_of, overflow_of, visibility_of}
use Rattle.lay_style.specs.KeywordValues.{text_align_of, white_space_of, table_layout_of, border_collapse_of, caption_side_of}
use Rattle.lay_style.specs.KeywordValues.{empty_cells_of}
use Rattle.lay_style.specs.LengthValues.{offset_of, size_or_auto_of, size_measure_of, size_or_none_of, indent_of, spacing_of}
use Rattle.lay_style.specs.LengthValues.{border_width_of, font_size_of, line_height_of, vertical_align_of, z_index_of, border_spacing_of}
use Rattle.lay_style.specs.LengthValues.{px}
use Rattle.lay_style.specs.InitialStyle.{initial_style}

abbrev pub font_size : Length → List Declaration → Length
font_size parent ds = cascaded FontSize ds parent (px 16) (font_size_of parent)

-- `top`, `right`, `bottom` and `left`
abbrev pub offsets : Length → Edges LengthPercentageOrAuto → Edges LengthPercentageOrAuto → List Declaration → Edges LengthPercentageOrAuto
offsets font parent initial ds = record {
  top = cascaded Top ds parent.top initial.top (offset_of font);
  right = cascaded Right ds parent.right initial.right (offset_of font);
  bottom = cascaded Bottom ds parent.bottom initial.bottom (offset_of font);
  left = cascaded Left ds parent.left initial.left (offset_of font);
}

abbrev pub margins : Length → Edges LengthPercentageOrAuto → Edges LengthPercentageOrAuto → List Declaration → Edges LengthPercentageOrAuto
margins font parent initial ds = record {
  top = cascaded MarginTop ds parent.top initial.top (offset_of font);
  right = cascaded MarginRight ds parent.right initial.right (offset_of font);
  bottom = cascaded MarginBottom ds parent.bottom initial.bottom (offset_of font);
  left = cascaded MarginLeft ds parent.left initial.left (offset_of font);
}

abbrev pub paddings : Length → Edges LengthPercentage → Edges LengthPercentage → List Declaration → Edges LengthPercentage
paddings font parent initial ds = record {
  top = cascaded PaddingTop ds parent.top initial.top (size_measure_of font);
  right = cascaded PaddingRight ds parent.right initial.right (size_measure_of font);
  bottom = cascaded PaddingBottom ds parent.bottom initial.bottom (size_measure_of font);
  left = cascaded PaddingLeft ds parent.left initial.left (size_measure_of font);
}

abbrev pub border_styles : Edges BorderStyle → Edges BorderStyle → List Declaration → Edges BorderStyle
border_styles parent initial ds = record {
  top = cascaded BorderTopStyle ds parent.top initial.top border_style_of;
  right = cascaded BorderRightStyle ds parent.right initial.right border_style_of;
  bottom = cascaded BorderBottomStyle ds parent.bottom initial.bottom border_style_of;
  left = cascaded BorderLeftStyle ds parent.left initial.left border_style_of;
}

-- the width of a border of this style
abbrev pub width_of_style : BorderStyle → Length → Length
width_of_style border.None w = px 0
width_of_style border.Hidden w = px 0
width_of_style _ w = w

abbrev pub border_widths : Length → Edges BorderStyle → Edges Length → Edges Length → List Declaration → Edges Length
border_widths font style parent initial ds = record {
  top = width_of_style style.top (cascaded BorderTopWidth ds parent.top initial.top (border_width_of font));
  right = width_of_style style.right (cascaded BorderRightWidth ds parent.right initial.right (border_width_of font));
  bottom = width_of_style style.bottom (cascaded BorderBottomWidth ds parent.bottom initial.bottom (border_width_of font));
  left = width_of_style style.left (cascaded BorderLeftWidth ds parent.left initial.left (border_width_of font));
}

abbrev pub borders : Length → Borders → Borders → List Declaration → Borders
borders font parent initial ds = record {
  width = border_widths font (border_styles parent.style initial.style ds) parent.width initial.width ds;
  style = border_styles parent.style initial.style ds;
}

abbrev pub sizing : Length → Sizing → Sizing → List Declaration → Sizing
sizing font parent initial ds = record {
  width = cascaded Width ds parent.width initial.width (size_or_auto_of font);
  height = cascaded Height ds parent.height initial.height (size_or_auto_of font);
  min_width = cascaded MinWidth ds parent.min_width initial.min_width (size_measure_of font);
  min_height = cascaded MinHeight ds parent.min_height initial.min_height (size_measure_of font);
  max_width = cascaded MaxWidth ds parent.max_width initial.max_width (size_or_none_of font);
  max_height = cascaded MaxHeight ds parent.max_height initial.max_height (size_or_none_of font);
}

abbrev pub text_style : Length → TextStyle → TextStyle → List Declaration → TextStyle
text_style font parent initial ds = record {
  font_size = font;
  line_height = cascaded LineHeight ds parent.line_height initial.line_height (line_height_of font);
  text_indent = cascaded TextIndent ds parent.text_indent initial.text_indent (indent_of font);
  text_align = cascaded TextAlign ds parent.text_align initial.text_align text_align_of;
  white_space = cascaded WhiteSpace ds parent.white_space initial.white_space white_space_of;
  letter_spacing = cascaded LetterSpacing ds parent.letter_spacing initial.letter_spacing (spacing_of font);
  word_spacing = cascaded WordSpacing ds parent.word_spacing initial.word_spacing (spacing_of font);
  vertical_align = cascaded VerticalAlign ds parent.vertical_align initial.vertical_align (vertical_align_of font);
}

abbrev pub table_style : Length → TableStyle → TableStyle → List Declaration → TableStyle
table_style font parent initial ds = record {
  layout = cascaded TableLayout ds parent.layout initial.layout table_layout_of;
  border_collapse = cascaded BorderCollapse ds parent.border_collapse initial.border_collapse border_collapse_of;
  border_spacing = cascaded BorderSpacing ds parent.border_spacing initial.border_spacing (border_spacing_of font);
  caption_side = cascaded CaptionSide ds parent.caption_side initial.caption_side caption_side_of;
  empty_cells = cascaded EmptyCells ds parent.empty_cells initial.empty_cells empty_cells_of;
}

-- the style of a node of this font size, beside its parent's and the initial style
abbrev pub styled : Length → Style → Style → List Declaration → Style
styled font parent initial ds = record {
  display = cascaded Display ds parent.display initial.display display_of;
  position = cascaded Position ds parent.position initial.position position_of;
  float = cascaded Float ds parent.float initial.float float_of;
  clear = cascaded Clear ds parent.clear initial.clear clear_of;
  offset = offsets font parent.offset initial.offset ds;
  z_index = cascaded ZIndex ds parent.z_index initial.z_index z_index_of;
  sizing = sizing font parent.sizing initial.sizing ds;
  margin = margins font parent.margin initial.margin ds;
  padding = paddings font parent.padding initial.padding ds;
  border = borders font parent.border initial.border ds;
  overflow = cascaded Overflow ds parent.overflow initial.overflow overflow_of;
  visibility = cascaded Visibility ds parent.visibility initial.visibility visibility_of;
  text = text_style font parent.text initial.text ds;
  table = table_style font parent.table initial.table ds;
}

abbrev pub computed_style : Style → List Declaration → Style
computed_style parent ds = styled (font_size parent.text.font_size ds) parent initial_style ds

abbrev pub style_at : List Style → ℕ → Style
style_at styles k = slice_index_or styles k initial_style

-- the style of the parent of the node at k; for the root the initial values
abbrev pub parent_style : List ℕ → List Style → ℕ → Style
parent_style parents styles zero = initial_style
parent_style parents styles (suc k) = style_at styles (slice_index parents (suc k))

abbrev pub declarations_at : List (List Declaration) → ℕ → List Declaration
declarations_at decls k = slice_index_or decls k []

-- these are the computed styles of the document's nodes, in document order
pub record HasStyles (parents : List ℕ) (decls : List (List Declaration)) (styles : List Style) : Type 0 where
  pub length_is : length styles ≡ length parents
  pub each : (k : ℕ) → k < length parents → style_at styles k ≡ computed_style (parent_style parents styles k) (declarations_at decls k)
