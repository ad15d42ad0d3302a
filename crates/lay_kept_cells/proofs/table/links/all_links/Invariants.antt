use Rattle.std.proofs.Common.{◌≡◌, map, take}
use Rattle.lay_contexts.specs.FormattingContexts.{formatting_context_at}
use Rattle.lay_context.specs.DocumentLayout.{flow_number}
use Rattle.lay_cell_work.specs.CellColumns.{link_to}
use Rattle.lay_kept_cells.proofs.table.links.all_links.Given as goal

abbrev pub invariant-loop-k : goal.invariant-loop-k
invariant-loop-k l = l.links.items ≡ map (link_to l.all l.first) (map (flow_number l.all) (take l.k (formatting_context_at l.all l.i).inner))
