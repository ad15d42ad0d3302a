use Rattle.std.proofs.Common.{List, length, All, subst}
use Rattle.lay_units.specs.declared.length.Unit.{Unit}
use Rattle.lay_box_cases.specs.Small.{IsSmallNeed}
use Rattle.lay_box_cases.proofs.SmallGrids.{rows_fit}
use Rattle.lay_box_cases.proofs.grids.heights.Goals as goal

pub rows-requires : goal.rows-requires
rows-requires c =
    let own = c.new.ensures in
    let cells = c.new-2.ensures in
    let needs = subst (λ (xs : List Unit). All (IsSmallNeed (length xs)) c.in_ok-cells.cells.items) c.deref.ensures.value (c.in_ok-cells.ensures {u = tt}) in
    rw (own, cells) (rows_fit (record { own = c.in_ok-own.own.items; cells = c.in_ok-cells.cells.items; spacing = c.in_ok-total.spacing; total = c.in_ok-total.total })
    c.in_ok-own.ensures.few c.in_ok-own.ensures.small needs c.in_ok-total.ensures.second c.in_ok-total.ensures.first)
