use Rattle.std.proofs.Common.{◌∙◌}
use Rattle.lay_grid.proofs.OwnSteps.{own_more}
use Rattle.lay_grid.proofs.given_widths.own_widths.Goals as goal

pub loop-cell-preserved : goal.loop-cell-preserved
loop-cell-preserved c =
    let g = c.give.ensures in
    let i = c.loop-cell.invariant in
    record {
      as_many = g.gives.as_many ∙ i.as_many;
      own = own_more _ _ _ _ _ _ _ _ c.as_slice-cell-items.ensures c.loop-cell-test.true g.gives i.as_many i.own;
      fits = g.fits;
    }
