use Rattle.lay_table.proofs.NeedSteps.{content_fits}
use Rattle.lay_table.proofs.row_needs.content_need.Goals as goal

pub returns-clause-fits : goal.returns-clause-fits
returns-clause-fits c =
    let e = c.need_by_content.ensures in
    rw e (content_fits _ _ _ _ _ _ c.cell_of.ensures.fits c.natural_box.ensures.fits c.sizes_at.ensures.fits)
