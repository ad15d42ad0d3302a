use Rattle.std.proofs.Common.{sym}
use Rattle.lay_cell_work.specs.CellValues.{own_places}
use Rattle.lay_kept_cells.proofs.TableLemmas.KeptReads.{read_none}
use Rattle.lay_kept_cells.proofs.table.cell_values.placed_or.Goals as goal

pub returns-in-None : goal.returns-in-None
returns-in-None c = (let none = rw c.in-None.is at c.placed.ensures in read_none (own_places c.args.value.now) c.args.r c.args.none.now (sym none))
