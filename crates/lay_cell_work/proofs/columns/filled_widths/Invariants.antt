use Rattle.std.proofs.Common.{◌≡◌, take}
use Rattle.lay_measure.specs.MeasureInValue.{no_widths}
use Rattle.lay_cell_work.specs.CellValues.{Widths, own_widths}
use Rattle.lay_cell_work.specs.CellColumns.{filled}
use Rattle.lay_cell_work.proofs.columns.filled_widths.Given as goal

abbrev pub invariant-loop-k : goal.invariant-loop-k
invariant-loop-k l = l.widths.items ≡ take l.k (filled no_widths (own_widths (Widths l.own)) l.links l.given)
