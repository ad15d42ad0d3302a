-- Cells that fit, with their minimums and with their maximums.
use Rattle.std.proofs.Common.{ℕ, List, [], ◌∷◌, arith}
use Rattle.std.specs.List.{All}
use Rattle.std.proofs.lemmas.List.Elements.{All-head, All-tail, All-cons}
use Rattle.lay_grid.specs.declared.automatic.bounds.SpanCell.{SpanCell}
use Rattle.lay_grid.specs.Automatic.Bounds.{maximum_spans, minimum_spans}
use Rattle.lay_grid.specs.Automatic.Fit.{CellFits, SpanFits}

pub minimums_fit : (columns : ℕ) (cells : List SpanCell) → All (CellFits columns) cells → All (SpanFits columns) (minimum_spans cells)
minimums_fit columns [] fits = λ i d less. absurd (omega (arith, less))
minimums_fit columns (cell ∷ cells) fits =
    let h = All-head (CellFits columns) cell cells fits in
    All-cons (SpanFits columns) _ (minimum_spans cells) (record { some = h.some; inside = h.inside; width = h.min })
    (minimums_fit columns cells (All-tail (CellFits columns) cell cells fits))

pub maximums_fit : (columns : ℕ) (cells : List SpanCell) → All (CellFits columns) cells → All (SpanFits columns) (maximum_spans cells)
maximums_fit columns [] fits = λ i d less. absurd (omega (arith, less))
maximums_fit columns (cell ∷ cells) fits =
    let h = All-head (CellFits columns) cell cells fits in
    All-cons (SpanFits columns) _ (maximum_spans cells) (record { some = h.some; inside = h.inside; width = h.max })
    (maximums_fit columns cells (All-tail (CellFits columns) cell cells fits))
