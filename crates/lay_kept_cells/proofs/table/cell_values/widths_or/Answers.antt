use Rattle.std.proofs.Common.{sym}
use Rattle.lay_cell_work.specs.CellValues.{own_measured}
use Rattle.lay_kept_cells.proofs.TableLemmas.KeptReads.{read_none}
use Rattle.lay_kept_cells.proofs.table.cell_values.widths_or.Goals as goal

pub returns-in-None : goal.returns-in-None
returns-in-None c = (let none = rw c.in-None.is at c.widths.ensures in read_none (own_measured c.args.value.now) c.args.r c.args.none.now (sym none))
