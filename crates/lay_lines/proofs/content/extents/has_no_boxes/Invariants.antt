use Rattle.lay_lines.specs.Content.LineContents.{HasNoBoxes}
use Rattle.lay_lines.proofs.content.extents.has_no_boxes.Given as goal

abbrev pub invariant-loop-k : goal.invariant-loop-k
invariant-loop-k l = HasNoBoxes l.stretches l.k
