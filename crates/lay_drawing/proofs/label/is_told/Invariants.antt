use Rattle.std.proofs.Common.{◌≡◌, drop}
use Rattle.lay_drawing.specs.Labels.{is_told}
use Rattle.lay_drawing.proofs.label.is_told.Given as goal

abbrev pub invariant-loop-label : goal.invariant-loop-label
invariant-loop-label l = is_told l.fn.left l.fn.top l.fn.node (drop l.label-index l.labels) ≡ is_told l.fn.left l.fn.top l.fn.node l.labels
