use Rattle.std.proofs.Common.{◌≡◌, drop}
use Rattle.lay_inlines.specs.OpenBoxes.{open_after}
use Rattle.lay_inlines.proofs.open_boxes.pass_parts.Given as goal

abbrev pub invariant-loop-k : goal.invariant-loop-k
invariant-loop-k l = open_after l.open_boxes.items (drop l.k l.parts) ≡ open_after l.initial.open_boxes.items l.parts
