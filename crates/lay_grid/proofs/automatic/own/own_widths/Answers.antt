use Rattle.std.proofs.Common.{◌∙◌}
use Rattle.lay_grid.proofs.AutomaticLemmas.OwnSteps.{own_more}
use Rattle.lay_grid.proofs.automatic.own.own_widths.Goals as goal

pub loop-cell-preserved : goal.loop-cell-preserved
loop-cell-preserved c =
    let g = c.raise.ensures in
    let i = c.loop-cell.invariant in
    record {
      as_many = g.raised.as_many ∙ i.as_many;
      own = own_more _ _ _ _ _ _ c.loop-cell-test.true i.as_many g.raised i.own;
      sizes = g.sizes;
    }
