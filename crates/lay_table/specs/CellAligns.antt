-- Where the content of a cell stands in the cell (CSS 2.2, 17.5.3): at the baseline, the top, the middle or the bottom. Of the other
-- values of `vertical-align`: "These values do not apply to cells; the cell is aligned at the baseline instead."
use Rattle.lay_style.specs.declared.style_lengths.VerticalAlign.{VerticalAlign}
use Rattle.lay_style.specs.declared.style_lengths.VerticalAlign.TheVariants as vertical
use Rattle.lay_table.specs.declared.cell_align.CellAlign.{CellAlign}
use Rattle.lay_table.specs.declared.cell_align.CellAlign.TheVariants.{Baseline, Top, Middle, Bottom}

abbrev pub cell_align : VerticalAlign → CellAlign
cell_align vertical.Top = Top
cell_align vertical.Middle = Middle
cell_align vertical.Bottom = Bottom
cell_align vertical.Baseline = Baseline
cell_align vertical.Sub = Baseline
cell_align vertical.Super = Baseline
cell_align vertical.TextTop = Baseline
cell_align vertical.TextBottom = Baseline
cell_align (vertical.Length v) = Baseline
cell_align (vertical.Percent p) = Baseline
