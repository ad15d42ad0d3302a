use Rattle.std.proofs.Common.{◌≡◌, ◌<◌, ℕ, length}
use Rattle.lay_sizes.specs.BoxSizes.{content_block}
use Rattle.lay_sizes.specs.SizeColumns.{HaveSizeBounds, sizes_at}
use Rattle.lay_table_sizes.specs.CellSizes.{IsCellSized}
use Rattle.lay_table.specs.RowNeeds.{cell_of, style_of, table_sizes}
use Rattle.lay_table.specs.TableRows.{cell_size_of}
use Rattle.lay_table.proofs.cells.cell_boxes.Given as goal

abbrev pub invariant-loop-c : goal.invariant-loop-c
invariant-loop-c l = record {
  count : length l.sizes.items ≡ l.c;
  each : (c : ℕ) → c < l.c → IsCellSized (content_block (table_sizes l.input)) (cell_size_of l.input c) (style_of l.input (cell_of l.input c).place) (sizes_at l.sizes.items c);
  fit : HaveSizeBounds l.sizes.items;
}
