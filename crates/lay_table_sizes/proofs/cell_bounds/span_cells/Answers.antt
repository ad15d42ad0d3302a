use Rattle.std.proofs.Common.{[], ◌∷◌, length}
use Rattle.std.proofs.lemmas.List.Elements.{All-append, All-cons, All-nil}
use Rattle.lay_grid.specs.Automatic.Fit.{CellFits}
use Rattle.lay_table_sizes.specs.CellBounds.{span_cell}
use Rattle.lay_table_sizes.proofs.BoundSteps.{mapped_step}
use Rattle.lay_table_sizes.proofs.cell_bounds.span_cells.Goals as goal

pub loop-k-preserved : goal.loop-k-preserved
loop-k-preserved c =
    let ok = c.in_ok-push.ensures {u = tt} in
    let cell = c.cell_at.ensures in
    let is = c.in_ok-span.ensures in
    let columns = c.args.grid.now.columns in
    record {
      value = rw (ok.items, is.cell) (mapped_step (span_cell c.args.boxes.now c.args.inner.now) c.loop-k.cells.items c.args.grid.now.cells c.loop-k.k c.cell_at.result cell.at c.loop-k.invariant.value);
      fit = rw ok.items (All-append (CellFits columns) c.loop-k.cells.items (c.in_ok-span.span ∷ []) c.loop-k.invariant.fit
          (All-cons (CellFits columns) c.in_ok-span.span [] (is.fits (length c.args.grid.now.rows) columns cell.fits) (All-nil (CellFits columns))));
    }
