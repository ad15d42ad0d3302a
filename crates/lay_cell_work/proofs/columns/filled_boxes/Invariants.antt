use Rattle.std.proofs.Common.{◌≡◌, take}
use Rattle.lay_sizes.specs.OwnBoxes.{OwnBoxesFit, no_own_box}
use Rattle.lay_cell_work.specs.CellColumns.{filled}
use Rattle.lay_cell_work.specs.CellValues.{Places, own_boxes}
use Rattle.lay_cell_work.proofs.columns.filled_boxes.Given as goal

abbrev pub invariant-loop-k : goal.invariant-loop-k
invariant-loop-k l = record {
  boxes : l.boxes.items ≡ take l.k (filled no_own_box (own_boxes (Places l.places)) l.links l.given);
  fit : OwnBoxesFit l.boxes.items;
}
