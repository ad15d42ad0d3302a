use Rattle.lay_table.proofs.NeedSteps.{height_fits}
use Rattle.lay_table.proofs.row_needs.height_need.Goals as goal

pub returns-clause-fits : goal.returns-clause-fits
returns-clause-fits c =
    let e = c.row_cell.ensures in
    let f = c.border_height.ensures in
    rw (e, f) (height_fits _ _ _ _ _ c.cell_of.ensures.fits c.sizes_at-sizes.ensures.fits c.requires.height)
