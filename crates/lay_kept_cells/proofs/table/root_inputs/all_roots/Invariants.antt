use Rattle.std.proofs.Common.{◌≡◌, ◌+◌, ℕ, map}
use Rattle.std.specs.List.{range_with_len}
use Rattle.lay_contexts.specs.FormattingContextList.{first_number}
use Rattle.lay_cell_work.specs.PresentInputs.{root_input}
use Rattle.lay_kept_cells.specs.Table.TableCells.{workings_in}
use Rattle.lay_kept_cells.proofs.table.root_inputs.all_roots.Given as goal

abbrev pub invariant-loop-r : goal.invariant-loop-r
invariant-loop-r l =
    l.roots.items ≡ map (λ (r : ℕ). root_input l.medium l.values.table.now.formatting_contexts (workings_in l.values.table.now l.values.cells.now.rows)
    (first_number l.values.table.now.contexts l.cell.context) (first_number l.values.table.now.contexts l.cell.context + r) l.cell.phase) (range_with_len 0 l.r)
