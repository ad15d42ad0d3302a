use Rattle.std.proofs.Common.{◌≡◌}
use Rattle.lay_lines.specs.Content.Pens.{pen_to}
use Rattle.lay_lines.proofs.content.pen.Pen.to.Given as goal

abbrev pub invariant-loop-k : goal.invariant-loop-k
invariant-loop-k l = l.pen ≡ pen_to l.frame l.fn.edge.0 l.stretches l.k
