-- What is read of a cell that may keep nothing.
use Rattle.std.specs.Prelude.{Option, None, Some}
use Rattle.lay_context.specs.declared.task.Phase.{Phase}
use Rattle.lay_cell_work.specs.CellValues.{CellValue, no_value}

abbrev pub kept_or_none : Phase → Option CellValue → CellValue
kept_or_none p None = no_value p
kept_or_none p (Some v) = v
