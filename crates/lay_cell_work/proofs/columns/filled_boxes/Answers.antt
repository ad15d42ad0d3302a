use Rattle.std.proofs.Common.{◌∙◌}
use Rattle.lay_sizes.specs.OwnBoxes.{no_own_box}
use Rattle.lay_cell_work.proofs.Cited.{one_more_fits}
use Rattle.lay_cell_work.specs.CellValues.{Places, own_boxes}
use Rattle.lay_cell_work.proofs.FilledColumns.{all_filled, one_more_filled}
use Rattle.lay_cell_work.proofs.columns.filled_boxes.Goals as goal

pub loop-k-preserved : goal.loop-k-preserved
loop-k-preserved c =
    let pushed = (c.in_ok-push.ensures {u = tt}).items in
    let within = rw c.as_slice-count.ensures.boxes at c.loop-k-test.true in
    record {
      boxes = rw pushed (one_more_filled no_own_box (own_boxes (Places c.args.places.now)) c.args.links.now c.args.given.now c.loop-k.boxes.items c.loop-k.k c.box_at.result within c.loop-k.invariant.boxes c.box_at.ensures.value);
      fit = rw pushed (one_more_fits c.loop-k.boxes.items c.box_at.result c.loop-k.invariant.fit c.box_at.ensures.fits);
    }

pub returns : goal.returns
returns c =
    let past = rw c.as_slice-count.ensures.boxes at c.loop-k-test.false in
    c.new.ensures ∙ all_filled no_own_box (own_boxes (Places c.args.places.now)) c.args.links.now c.args.given.now c.loop-k.boxes.items c.loop-k.k past c.loop-k.invariant.boxes
