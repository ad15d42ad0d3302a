use Rattle.std.proofs.Common.{List, Option, length, All, subst}
use Rattle.lay_units.specs.declared.length.Unit.{Unit}
use Rattle.lay_box_cases.specs.Small.{IsSmallCell}
use Rattle.lay_box_cases.proofs.SmallGrids.{columns_fit}
use Rattle.lay_box_cases.proofs.grids.columns.Goals as goal

pub columns_fixed-requires : goal.columns_fixed-requires
columns_fixed-requires c =
    let given = c.new.ensures in
    let first = c.new-2.ensures in
    let cells = subst (λ (xs : List (Option Unit)). All (IsSmallCell (length xs)) c.in_ok-first.first.items) c.deref.ensures.value (c.in_ok-first.ensures {u = tt}) in
    rw (given, first) (columns_fit (record { given = c.in_ok-given.given.items; first = c.in_ok-first.first.items; width = c.in_ok-width.width; spacing = c.in_ok-width.spacing })
    c.in_ok-given.ensures.few c.in_ok-given.ensures.small cells c.in_ok-width.ensures.first c.in_ok-width.ensures.second)
