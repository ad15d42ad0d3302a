-- How the value of a cell stands in memory. No public contract names it.
use Rattle.lay_cell_work.specs.declared.root_values.RootValues.{RootValues}
use Rattle.lay_cell_work.specs.declared.root_values.RootValues.TheVariants as values
use Rattle.lay_cell_work.specs.CellValues.{CellValue, Places, Sizes, Widths}

abbrev pub root_cell_value : RootValues → CellValue
root_cell_value (values.Widths ws) = Widths ws
root_cell_value (values.Sizes zs) = Sizes zs
root_cell_value (values.Places ps) = Places ps
