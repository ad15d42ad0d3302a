use Rattle.std.proofs.Common.{◌≡◌, ◌≤◌, []}
use Rattle.lay_measure.specs.LineWidths.{lines_of, widest}
use Rattle.lay_measure.specs.WidestLine.{widest_with}
use Rattle.lay_measure.proofs.inline_widths.widest.Given as goal

abbrev pub invariant-loop-k : goal.invariant-loop-k
invariant-loop-k l =
    (l.lines.from ≤ l.k)
    × (widest_with l.how l.tab.0 l.parts l.lines l.k ≡ widest l.how l.tab.0 l.fn.start (lines_of l.how [] l.parts))
