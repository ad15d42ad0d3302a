-- The keywords that a property takes beside `inherit`, a group for the properties that share them.
use Rattle.std.specs.Prelude.{Bool, true, false}
use Rattle.lay_style.specs.declared.property.Word.{Word}
use Rattle.lay_style.specs.declared.property.Word.TheVariants.{Absolute, Auto, Baseline, Block, Both, Bottom, Center, Collapse, Dashed}
use Rattle.lay_style.specs.declared.property.Word.TheVariants.{Dotted, Double, Fixed, Groove, Hidden, Hide, Inline, InlineBlock}
use Rattle.lay_style.specs.declared.property.Word.TheVariants.{InlineTable, Inset, Justify, Large, Larger, Left, ListItem, Medium}
use Rattle.lay_style.specs.declared.property.Word.TheVariants.{Middle, None, Normal, Nowrap, Outset, Pre, PreLine, PreWrap, Relative}
use Rattle.lay_style.specs.declared.property.Word.TheVariants.{Ridge, Right, Scroll, Separate, Show, Small, Smaller, Solid, Static}
use Rattle.lay_style.specs.declared.property.Word.TheVariants.{Sub, Super, Table, TableCaption, TableCell, TableColumn, TableColumnGroup}
use Rattle.lay_style.specs.declared.property.Word.TheVariants.{TableFooterGroup, TableHeaderGroup, TableRow, TableRowGroup, TextBottom}
use Rattle.lay_style.specs.declared.property.Word.TheVariants.{TextTop, Thick, Thin, Top, Visible, XLarge, XSmall, XxLarge, XxSmall}

-- what `display` takes (CSS 2.2, 9.2.4)
abbrev pub is_display : Word → Bool
is_display Inline = true
is_display Block = true
is_display ListItem = true
is_display InlineBlock = true
is_display Table = true
is_display InlineTable = true
is_display TableRowGroup = true
is_display TableHeaderGroup = true
is_display TableFooterGroup = true
is_display TableRow = true
is_display TableColumnGroup = true
is_display TableColumn = true
is_display TableCell = true
is_display TableCaption = true
is_display None = true
is_display _ = false

-- `position` (9.3.1)
abbrev pub is_position : Word → Bool
is_position Static = true
is_position Relative = true
is_position Absolute = true
is_position Fixed = true
is_position _ = false

-- `float` (9.5.1)
abbrev pub is_float : Word → Bool
is_float None = true
is_float Left = true
is_float Right = true
is_float _ = false

-- `clear` (9.5.2)
abbrev pub is_clear : Word → Bool
is_clear None = true
is_clear Left = true
is_clear Right = true
is_clear Both = true
is_clear _ = false

-- a size, a margin, an offset, `z-index`
abbrev pub is_auto : Word → Bool
is_auto Auto = true
is_auto _ = false

-- `max-width` and `max-height` (10.4, 10.7)
abbrev pub is_none : Word → Bool
is_none None = true
is_none _ = false

-- a border's width (8.5.1)
abbrev pub is_border_width : Word → Bool
is_border_width Thin = true
is_border_width Medium = true
is_border_width Thick = true
is_border_width _ = false

-- a border's style (8.5.3)
abbrev pub is_border_style : Word → Bool
is_border_style None = true
is_border_style Hidden = true
is_border_style Dotted = true
is_border_style Dashed = true
is_border_style Solid = true
is_border_style Double = true
is_border_style Groove = true
is_border_style Ridge = true
is_border_style Inset = true
is_border_style Outset = true
is_border_style _ = false

-- `overflow` (11.1.1)
abbrev pub is_overflow : Word → Bool
is_overflow Visible = true
is_overflow Hidden = true
is_overflow Scroll = true
is_overflow Auto = true
is_overflow _ = false

-- `font-size` (15.7)
abbrev pub is_font_size : Word → Bool
is_font_size XxSmall = true
is_font_size XSmall = true
is_font_size Small = true
is_font_size Medium = true
is_font_size Large = true
is_font_size XLarge = true
is_font_size XxLarge = true
is_font_size Larger = true
is_font_size Smaller = true
is_font_size _ = false

-- `line-height`, `letter-spacing`, `word-spacing`
abbrev pub is_normal : Word → Bool
is_normal Normal = true
is_normal _ = false

-- `text-align` (16.2)
abbrev pub is_text_align : Word → Bool
is_text_align Left = true
is_text_align Right = true
is_text_align Center = true
is_text_align Justify = true
is_text_align _ = false

-- `white-space` (16.6)
abbrev pub is_white_space : Word → Bool
is_white_space Normal = true
is_white_space Pre = true
is_white_space Nowrap = true
is_white_space PreWrap = true
is_white_space PreLine = true
is_white_space _ = false

-- `vertical-align` (10.8.1)
abbrev pub is_vertical_align : Word → Bool
is_vertical_align Baseline = true
is_vertical_align Sub = true
is_vertical_align Super = true
is_vertical_align Top = true
is_vertical_align TextTop = true
is_vertical_align Middle = true
is_vertical_align Bottom = true
is_vertical_align TextBottom = true
is_vertical_align _ = false

-- `table-layout` (17.5.2)
abbrev pub is_table_layout : Word → Bool
is_table_layout Auto = true
is_table_layout Fixed = true
is_table_layout _ = false

-- `border-collapse` (17.6)
abbrev pub is_border_collapse : Word → Bool
is_border_collapse Collapse = true
is_border_collapse Separate = true
is_border_collapse _ = false

-- `caption-side` (17.4.1)
abbrev pub is_caption_side : Word → Bool
is_caption_side Top = true
is_caption_side Bottom = true
is_caption_side _ = false

-- `visibility` (11.2)
abbrev pub is_visibility : Word → Bool
is_visibility Visible = true
is_visibility Hidden = true
is_visibility Collapse = true
is_visibility _ = false

-- `empty-cells` (17.6.1.1)
abbrev pub is_empty_cells : Word → Bool
is_empty_cells Show = true
is_empty_cells Hide = true
is_empty_cells _ = false
