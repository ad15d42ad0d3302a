use Rattle.lay_cells.specs.Steps.{Finishes}
use Rattle.lay_cells.specs.Rows.{row_of}
use Rattle.lay_cells.proofs.Lists.{map_at, read_at}
use Rattle.lay_cells.proofs.Changes.{changes_at}
use Rattle.lay_cells.proofs.change.finish_known_at.Goals as goal

pub returns : goal.returns
returns g c =
    changes_at c.args.cells.now.items c.args.place c.index_mut.result.now c.finish_known_cell.new.cell (λ r q. Finishes r c.args.done c.finish_known_cell.result q)
    (read_at c.args.cells.now.items c.args.place c.index_mut.result.now c.requires.within c.index_mut.ensures.value) c.finish_known_cell.ensures.wire c.finish_known_cell.ensures.finishes

pub finish_known_cell-requires-clause-known : goal.finish_known_cell-requires-clause-known
finish_known_cell-requires-clause-known g c _ _ =
    c.requires.known (row_of c.index_mut.result.now) (map_at row_of c.args.cells.now.items c.args.place c.index_mut.result.now (read_at c.args.cells.now.items c.args.place c.index_mut.result.now c.requires.within c.index_mut.ensures.value))
