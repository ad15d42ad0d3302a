-- Each cell of the rows spans a column at least.
use Rattle.std.specs.Prelude.{◌≤◌, List, All}
use Rattle.lay_grid.specs.declared.cells.RowSpec.{RowSpec}
use Rattle.lay_grid.specs.declared.cells.Span.{Span}

abbrev pub SpanColumns : List RowSpec → Type 0
SpanColumns rows = All (λ (row : RowSpec). All (λ (span : Span). 1 ≤ span.columns) row.cells) rows
