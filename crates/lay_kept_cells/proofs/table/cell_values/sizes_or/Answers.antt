use Rattle.std.proofs.Common.{sym}
use Rattle.lay_cell_work.specs.CellValues.{own_sizes}
use Rattle.lay_kept_cells.proofs.TableLemmas.KeptReads.{read_none}
use Rattle.lay_kept_cells.proofs.table.cell_values.sizes_or.Goals as goal

pub returns-in-None : goal.returns-in-None
returns-in-None c = (let none = rw c.in-None.is at c.sizes.ensures in read_none (own_sizes c.args.value.now) c.args.r c.args.none.now (sym none))
