use Rattle.std.proofs.Common.{◌≡◌, drop}
use Rattle.std.specs.List.{list_any}
use Rattle.lay_drawing.specs.Labels.{overlaps}
use Rattle.lay_drawing.proofs.label.is_free.Given as goal

abbrev pub invariant-loop-label : goal.invariant-loop-label
invariant-loop-label l = list_any (overlaps l.fn.frame) (drop l.label-index l.labels) ≡ list_any (overlaps l.fn.frame) l.labels
