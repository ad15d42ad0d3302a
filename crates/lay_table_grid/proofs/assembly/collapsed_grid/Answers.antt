use Rattle.std.proofs.Common.{true, ◌∙◌, ap, slice_get, subst, sym}
use Rattle.lay_table_grid.specs.TableParts.{TableParts}
use Rattle.lay_table_grid.specs.TableGrid.{IsTableGrid, spacing_in}
use Rattle.lay_table_grid.proofs.Assembled.{collapsed_is_grid, grid_of}
use Rattle.lay_table_grid.proofs.assembly.collapsed_grid.Goals as goal

pub returns : goal.returns
returns c =
    let cells = c.in_ok-collapsed.collapsed.cells.items in
    let borders = c.in_ok-collapsed.collapsed.borders in
    let spacing = c.spacing_at-spacing.result in
    let between = c.spacing_at-spacing.ensures.spacing ∙ ap (λ (p : TableParts). spacing_in (slice_get p.boxes p.table)) c.parts.view_is in
    subst (λ (p : TableParts). IsTableGrid c.args.parts.boxes (grid_of p cells spacing true borders)) (sym c.parts.view_is)
    (collapsed_is_grid c.args.parts cells spacing borders c.requires.parts c.requires.collapses c.in_ok-collapsed.ensures.placed between
    c.in_ok-collapsed.ensures.cells c.in_ok-collapsed.ensures.borders)
