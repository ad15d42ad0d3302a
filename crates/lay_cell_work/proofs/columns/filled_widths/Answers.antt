use Rattle.lay_measure.specs.MeasureInValue.{no_widths}
use Rattle.lay_cell_work.specs.CellValues.{Widths, own_widths}
use Rattle.lay_cell_work.proofs.FilledColumns.{all_filled, one_more_filled}
use Rattle.lay_cell_work.proofs.columns.filled_widths.Goals as goal

pub loop-k-preserved : goal.loop-k-preserved
loop-k-preserved c =
    let pushed = (c.in_ok-push.ensures {u = tt}).items in
    rw pushed (one_more_filled no_widths (own_widths (Widths c.args.own.now)) c.args.links.now c.args.given.now c.loop-k.widths.items c.loop-k.k c.widths_at.result c.loop-k-test.true c.loop-k.invariant c.widths_at.ensures)

pub returns : goal.returns
returns c = all_filled no_widths (own_widths (Widths c.args.own.now)) c.args.links.now c.args.given.now c.loop-k.widths.items c.loop-k.k c.loop-k-test.false c.loop-k.invariant
