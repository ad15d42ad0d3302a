use Rattle.lay_grid.proofs.RowBaselines.{baselines_more}
use Rattle.lay_grid.proofs.baselines.row_baselines.Goals as goal

pub loop-cell-preserved : goal.loop-cell-preserved
loop-cell-preserved c =
    let e = c.lower_baseline.ensures in
    baselines_more _ _ _ _ _ _ c.loop-cell.invariant c.loop-cell-test.true e.lowers.here e.lowers.others e.lowers.as_many e.fits
