use Rattle.std.proofs.Common.{◌∙◌}
use Rattle.lay_grid.proofs.AutomaticLemmas.SpreadSteps.{widened_next}
use Rattle.lay_grid.proofs.automatic.spread.widen_all.Goals as goal

pub loop-cell-preserved : goal.loop-cell-preserved
loop-cell-preserved c =
    let g = c.widen.ensures in
    let i = c.loop-cell.invariant in
    record {
      as_many = g.widened.as_many ∙ i.as_many;
      widened = widened_next _ _ _ _ _ _ _ c.loop-cell-test.true i.widened g.widened;
      sizes = g.sizes;
    }
