use Rattle.std.proofs.Common.{◌≡◌, drop, fold}
use Rattle.lay_drawing.specs.Labels.{behind}
use Rattle.lay_drawing.proofs.label.begin_at.Given as goal

abbrev pub invariant-loop-label : goal.invariant-loop-label
invariant-loop-label l = fold (behind l.fn.top l.fn.width) l.begin (drop l.label-index l.labels) ≡ fold (behind l.fn.top l.fn.width) l.fn.left l.labels
