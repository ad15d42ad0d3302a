use Rattle.std.proofs.Common.{◌≡◌, drop}
use Rattle.lay_inlines.specs.OpenBoxes.{open_after}
use Rattle.lay_inlines.specs.Strokes.{parts_of}
use Rattle.lay_inlines.proofs.open_boxes.pass.Given as goal

abbrev pub invariant-loop-k : goal.invariant-loop-k
invariant-loop-k l = open_after l.open_boxes.items (parts_of (drop l.k l.stretches)) ≡ open_after l.initial.open_boxes.items (parts_of l.stretches)
