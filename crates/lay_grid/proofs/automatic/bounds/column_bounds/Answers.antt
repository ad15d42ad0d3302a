use Rattle.std.proofs.Common.{◌∙◌, ap, sym, subst, length}
use Rattle.std.specs.List.{All}
use Rattle.lay_grid.specs.Automatic.Bounds.{maximum_spans, minimum_spans}
use Rattle.lay_grid.specs.Automatic.Fit.{SpanFits}
use Rattle.lay_grid.proofs.AutomaticLemmas.Fits.{maximums_fit, minimums_fit}
use Rattle.lay_grid.proofs.automatic.bounds.column_bounds.Goals as goal

pub widths_of-requires-clause-cells : goal.widths_of-requires-clause-cells
widths_of-requires-clause-cells c = subst (All (SpanFits (length c.args.i.now.given)))
    (sym (c.as_slice-2.ensures.value ∙ c.in_ok-cells.ensures ∙ ap minimum_spans c.as_slice.ensures))
    (minimums_fit (length c.args.i.now.given) c.args.i.now.cells c.requires.cells)

pub widths_of-requires-2-clause-cells : goal.widths_of-requires-2-clause-cells
widths_of-requires-2-clause-cells c = subst (All (SpanFits (length c.args.i.now.given)))
    (sym (c.as_slice-5.ensures.value ∙ c.in_ok-cells-2.ensures ∙ ap maximum_spans c.as_slice-4.ensures))
    (maximums_fit (length c.args.i.now.given) c.args.i.now.cells c.requires.cells)
