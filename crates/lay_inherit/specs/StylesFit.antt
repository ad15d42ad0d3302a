-- The bounds of computed lengths: each is at most 2^31 units from 0, and one of a property that takes no
-- negative values (CSS 2.2, 8.4, 8.5.1, 10.2, 10.4, 10.5, 10.7, 10.8.1, 15.7 and 17.6.1) isn't negative.
-- Percentages are not bounded here: they are the declared ones.
use Rattle.std.specs.Prelude.{ℕ, List, ⊤}
use Rattle.lay_units.specs.Units.{IsUsed, IsUsedSize}
use Rattle.lay_units.specs.declared.length.Unit.{Unit as Length}
use Rattle.lay_style.specs.declared.style.Edges.{Edges}
use Rattle.lay_style.specs.declared.style.Sizing.{Sizing}
use Rattle.lay_style.specs.declared.style.TextStyle.{TextStyle}
use Rattle.lay_style.specs.declared.style.Style.{Style}
use Rattle.lay_style.specs.declared.style_lengths.LengthPercentageOrAuto.{LengthPercentageOrAuto}
use Rattle.lay_style.specs.declared.style_lengths.LengthPercentageOrAuto.TheVariants as or_auto
use Rattle.lay_style.specs.declared.style_lengths.LengthPercentage.{LengthPercentage}
use Rattle.lay_style.specs.declared.style_lengths.LengthPercentage.TheVariants as measure
use Rattle.lay_style.specs.declared.style_lengths.LengthPercentageOrNone.{LengthPercentageOrNone}
use Rattle.lay_style.specs.declared.style_lengths.LengthPercentageOrNone.TheVariants as or_none
use Rattle.lay_style.specs.declared.style_lengths.LineHeight.{LineHeight}
use Rattle.lay_style.specs.declared.style_lengths.LineHeight.TheVariants as line
use Rattle.lay_style.specs.declared.style_lengths.VerticalAlign.{VerticalAlign}
use Rattle.lay_style.specs.declared.style_lengths.VerticalAlign.TheVariants as vertical
use Rattle.lay_style.specs.declared.style_lengths.BorderSpacing.{BorderSpacing}
use Rattle.lay_style.specs.Values.{Declaration}
use Rattle.lay_style.specs.ComputedStyle.{HasStyles, style_at}
use Rattle.lay_doc.specs.Tree.{IsTree}

abbrev pub LengthFits : Length → Type 0
LengthFits u = IsUsed u.0

abbrev pub UsedSizeFits : Length → Type 0
UsedSizeFits u = IsUsedSize u.0

-- an offset or a margin
abbrev pub OffsetFits : LengthPercentageOrAuto → Type 0
OffsetFits (or_auto.Length u) = LengthFits u
OffsetFits _ = ⊤

-- a width or a height
abbrev pub SizeOrAutoFits : LengthPercentageOrAuto → Type 0
SizeOrAutoFits (or_auto.Length u) = UsedSizeFits u
SizeOrAutoFits _ = ⊤

-- a padding or a least size
abbrev pub SizeMeasureFits : LengthPercentage → Type 0
SizeMeasureFits (measure.Length u) = UsedSizeFits u
SizeMeasureFits _ = ⊤

-- a greatest size
abbrev pub SizeOrNoneFits : LengthPercentageOrNone → Type 0
SizeOrNoneFits (or_none.Length u) = UsedSizeFits u
SizeOrNoneFits _ = ⊤

abbrev pub IndentFits : LengthPercentage → Type 0
IndentFits (measure.Length u) = LengthFits u
IndentFits _ = ⊤

abbrev pub LineHeightFits : LineHeight → Type 0
LineHeightFits (line.Length u) = UsedSizeFits u
LineHeightFits _ = ⊤

abbrev pub VerticalAlignFits : VerticalAlign → Type 0
VerticalAlignFits (vertical.Length u) = LengthFits u
VerticalAlignFits _ = ⊤

-- each side's value fits
pub record SidesFit {A : Type 0} (Fits : A → Type 0) (e : Edges A) : Type 0 where
  pub top : Fits e.top
  pub right : Fits e.right
  pub bottom : Fits e.bottom
  pub left : Fits e.left

pub record SizingFits (s : Sizing) : Type 0 where
  pub width : SizeOrAutoFits s.width
  pub height : SizeOrAutoFits s.height
  pub min_width : SizeMeasureFits s.min_width
  pub min_height : SizeMeasureFits s.min_height
  pub max_width : SizeOrNoneFits s.max_width
  pub max_height : SizeOrNoneFits s.max_height

pub record TextFits (t : TextStyle) : Type 0 where
  pub font_size : UsedSizeFits t.font_size
  pub line_height : LineHeightFits t.line_height
  pub text_indent : IndentFits t.text_indent
  pub letter_spacing : LengthFits t.letter_spacing
  pub word_spacing : LengthFits t.word_spacing
  pub vertical_align : VerticalAlignFits t.vertical_align

pub record SpacingFits (b : BorderSpacing) : Type 0 where
  pub horizontal : UsedSizeFits b.horizontal
  pub vertical : UsedSizeFits b.vertical

pub record StyleFits (s : Style) : Type 0 where
  pub offset : SidesFit OffsetFits s.offset
  pub sizing : SizingFits s.sizing
  pub margin : SidesFit OffsetFits s.margin
  pub padding : SidesFit SizeMeasureFits s.padding
  pub border : SidesFit UsedSizeFits s.border.width
  pub text : TextFits s.text
  pub border_spacing : SpacingFits s.table.border_spacing

-- in a tree the computed lengths of all nodes are within their bounds
abbrev pub StylesFit : Type 0
StylesFit = (parents : List ℕ) (decls : List (List Declaration)) (styles : List Style) → IsTree parents
    → HasStyles parents decls styles → (k : ℕ) → StyleFits (style_at styles k)
