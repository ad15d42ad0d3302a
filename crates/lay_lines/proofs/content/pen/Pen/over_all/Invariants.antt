use Rattle.std.proofs.Common.{◌≡◌, drop}
use Rattle.lay_lines.specs.Content.Pens.{over_all, PensFit}
use Rattle.lay_lines.proofs.content.pen.Pen.over_all.Given as goal

abbrev pub invariant-loop-k : goal.invariant-loop-k
invariant-loop-k l =
    (over_all l.frame l.pen (drop l.k l.parts) ≡ over_all l.frame l.fn.self l.parts)
    × PensFit l.frame l.pen (drop l.k l.parts)
