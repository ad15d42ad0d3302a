-- Which algorithm lays a table out (CSS 2.2, 17.5.2): the fixed one where `table-layout` is `fixed` and the table's width isn't
-- `auto`, which "means use the automatic table layout algorithm" (17.5.2.1), and the automatic one everywhere else. Both properties
-- are the table's, whose style its wrapper has too.
use Rattle.std.specs.Prelude.{Bool, true, false, ◌&&◌}
use Rattle.lay_style.specs.declared.style.Style.{Style}
use Rattle.lay_style.specs.declared.style_lengths.LengthPercentageOrAuto.{LengthPercentageOrAuto}
use Rattle.lay_style.specs.declared.style_lengths.LengthPercentageOrAuto.TheVariants as or_auto
use Rattle.lay_style.specs.declared.style_words.TableLayout.{TableLayout}
use Rattle.lay_style.specs.declared.style_words.TableLayout.TheVariants as layout

abbrev pub asks_fixed : TableLayout → Bool
asks_fixed layout.Fixed = true
asks_fixed layout.Auto = false

abbrev pub has_width : LengthPercentageOrAuto → Bool
has_width or_auto.Auto = false
has_width (or_auto.Length u) = true
has_width (or_auto.Percent h) = true

abbrev pub is_fixed : Style → Bool
is_fixed s = asks_fixed s.table.layout && has_width s.sizing.width
