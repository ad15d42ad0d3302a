use Rattle.std.proofs.Common.{◌≡◌, ◌++◌, ◌≤◌, drop, map, All}
use Rattle.lay_grid.specs.declared.cells.Span.{Span}
use Rattle.lay_table_grid.specs.TableBoxes.{kind_at, span_of}
use Rattle.lay_table_grid.proofs.cells.spans_of.Given as goal

abbrev pub invariant-loop-place : goal.invariant-loop-place
invariant-loop-place l = record {
  spans : l.spans.items ++ map (λ k. span_of (kind_at l.boxes k)) (drop l.place-index l.places) ≡ map (λ k. span_of (kind_at l.boxes k)) l.places;
  rows : All (λ (span : Span). 1 ≤ span.rows) l.spans.items;
  columns : All (λ (span : Span). 1 ≤ span.columns) l.spans.items;
}
