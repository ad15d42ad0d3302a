-- The computed values of the properties that have keywords alone: their keywords. No other word is
-- declared for them.
use Rattle.lay_style.specs.declared.property.Word.TheVariants as word
use Rattle.lay_style.specs.declared.property.Given.{Given}
use Rattle.lay_style.specs.declared.property.Given.TheVariants.{Keyword}
use Rattle.lay_style.specs.declared.style_words.Display.{Display}
use Rattle.lay_style.specs.declared.style_words.Display.TheVariants as display
use Rattle.lay_style.specs.declared.style_words.Position.{Position}
use Rattle.lay_style.specs.declared.style_words.Position.TheVariants as position
use Rattle.lay_style.specs.declared.style_words.Float.{Float}
use Rattle.lay_style.specs.declared.style_words.Float.TheVariants as float
use Rattle.lay_style.specs.declared.style_words.Clear.{Clear}
use Rattle.lay_style.specs.declared.style_words.Clear.TheVariants as clear
use Rattle.lay_style.specs.declared.style_words.BorderStyle.{BorderStyle}
use Rattle.lay_style.specs.declared.style_words.BorderStyle.TheVariants as border
use Rattle.lay_style.specs.declared.style_words.Overflow.{Overflow}
use Rattle.lay_style.specs.declared.style_words.Overflow.TheVariants as overflow
use Rattle.lay_style.specs.declared.style_words.Visibility.{Visibility}
use Rattle.lay_style.specs.declared.style_words.Visibility.TheVariants as visibility
use Rattle.lay_style.specs.declared.style_words.TextAlign.{TextAlign}
use Rattle.lay_style.specs.declared.style_words.TextAlign.TheVariants as align
use Rattle.lay_style.specs.declared.style_words.WhiteSpace.{WhiteSpace}
use Rattle.lay_style.specs.declared.style_words.WhiteSpace.TheVariants as space
use Rattle.lay_style.specs.declared.style_words.TableLayout.{TableLayout}
use Rattle.lay_style.specs.declared.style_words.TableLayout.TheVariants as layout
use Rattle.lay_style.specs.declared.style_words.BorderCollapse.{BorderCollapse}
use Rattle.lay_style.specs.declared.style_words.BorderCollapse.TheVariants as borders
use Rattle.lay_style.specs.declared.style_words.CaptionSide.{CaptionSide}
use Rattle.lay_style.specs.declared.style_words.CaptionSide.TheVariants as caption
use Rattle.lay_style.specs.declared.style_words.EmptyCells.{EmptyCells}
use Rattle.lay_style.specs.declared.style_words.EmptyCells.TheVariants as cells

abbrev pub display_of : Given → Display
display_of (Keyword word.Block) = display.Block
display_of (Keyword word.ListItem) = display.ListItem
display_of (Keyword word.InlineBlock) = display.InlineBlock
display_of (Keyword word.Table) = display.Table
display_of (Keyword word.InlineTable) = display.InlineTable
display_of (Keyword word.TableRowGroup) = display.TableRowGroup
display_of (Keyword word.TableHeaderGroup) = display.TableHeaderGroup
display_of (Keyword word.TableFooterGroup) = display.TableFooterGroup
display_of (Keyword word.TableRow) = display.TableRow
display_of (Keyword word.TableColumnGroup) = display.TableColumnGroup
display_of (Keyword word.TableColumn) = display.TableColumn
display_of (Keyword word.TableCell) = display.TableCell
display_of (Keyword word.TableCaption) = display.TableCaption
display_of (Keyword word.None) = display.None
display_of _ = display.Inline

abbrev pub position_of : Given → Position
position_of (Keyword word.Relative) = position.Relative
position_of (Keyword word.Absolute) = position.Absolute
position_of (Keyword word.Fixed) = position.Fixed
position_of _ = position.Static

abbrev pub float_of : Given → Float
float_of (Keyword word.Left) = float.Left
float_of (Keyword word.Right) = float.Right
float_of _ = float.None

abbrev pub clear_of : Given → Clear
clear_of (Keyword word.Left) = clear.Left
clear_of (Keyword word.Right) = clear.Right
clear_of (Keyword word.Both) = clear.Both
clear_of _ = clear.None

abbrev pub border_style_of : Given → BorderStyle
border_style_of (Keyword word.Hidden) = border.Hidden
border_style_of (Keyword word.Dotted) = border.Dotted
border_style_of (Keyword word.Dashed) = border.Dashed
border_style_of (Keyword word.Solid) = border.Solid
border_style_of (Keyword word.Double) = border.Double
border_style_of (Keyword word.Groove) = border.Groove
border_style_of (Keyword word.Ridge) = border.Ridge
border_style_of (Keyword word.Inset) = border.Inset
border_style_of (Keyword word.Outset) = border.Outset
border_style_of _ = border.None

abbrev pub overflow_of : Given → Overflow
overflow_of (Keyword word.Hidden) = overflow.Hidden
overflow_of (Keyword word.Scroll) = overflow.Scroll
overflow_of (Keyword word.Auto) = overflow.Auto
overflow_of _ = overflow.Visible

abbrev pub visibility_of : Given → Visibility
visibility_of (Keyword word.Hidden) = visibility.Hidden
visibility_of (Keyword word.Collapse) = visibility.Collapse
visibility_of _ = visibility.Visible

abbrev pub text_align_of : Given → TextAlign
text_align_of (Keyword word.Right) = align.Right
text_align_of (Keyword word.Center) = align.Center
text_align_of (Keyword word.Justify) = align.Justify
text_align_of _ = align.Left

abbrev pub white_space_of : Given → WhiteSpace
white_space_of (Keyword word.Pre) = space.Pre
white_space_of (Keyword word.Nowrap) = space.Nowrap
white_space_of (Keyword word.PreWrap) = space.PreWrap
white_space_of (Keyword word.PreLine) = space.PreLine
white_space_of _ = space.Normal

abbrev pub table_layout_of : Given → TableLayout
table_layout_of (Keyword word.Fixed) = layout.Fixed
table_layout_of _ = layout.Auto

abbrev pub border_collapse_of : Given → BorderCollapse
border_collapse_of (Keyword word.Collapse) = borders.Collapse
border_collapse_of _ = borders.Separate

abbrev pub caption_side_of : Given → CaptionSide
caption_side_of (Keyword word.Bottom) = caption.Bottom
caption_side_of _ = caption.Top

abbrev pub empty_cells_of : Given → EmptyCells
empty_cells_of (Keyword word.Hide) = cells.Hide
empty_cells_of _ = cells.Show
