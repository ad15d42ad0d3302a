-- The style of an anonymous box (9.2.1.1): "The properties of anonymous boxes are inherited from the
-- enclosing non-anonymous box. Non-inherited properties have their initial value." It is that of a child
-- for which nothing is declared.
use Rattle.std.specs.Prelude.{[]}
use Rattle.lay_style.specs.ComputedStyle.{computed_style, text_style, table_style}
use Rattle.lay_style.specs.InitialStyle.{all_sides, initial_style}
use Rattle.lay_style.specs.LengthValues.{px}
use Rattle.lay_style.specs.declared.style.Borders.{Borders}
use Rattle.lay_style.specs.declared.style.Sizing.{Sizing}
use Rattle.lay_style.specs.declared.style.Style.{Style}
use Rattle.lay_style.specs.declared.style.TableStyle.{TableStyle}
use Rattle.lay_style.specs.declared.style.TextStyle.{TextStyle}
use Rattle.lay_style.specs.declared.style_words.BorderStyle.TheVariants as border

abbrev pub anonymous_style : Style → Style
anonymous_style s = computed_style s []

-- parts of it
abbrev pub no_border : Borders
no_border = record { width = all_sides (px 0); style = all_sides border.None }

abbrev pub initial_sizing : Sizing
initial_sizing = initial_style.sizing

abbrev pub inherited_text : TextStyle → TextStyle
inherited_text t = text_style t.font_size t initial_style.text []

abbrev pub inherited_table : TableStyle → TableStyle
inherited_table t = table_style (px 0) t initial_style.table []
