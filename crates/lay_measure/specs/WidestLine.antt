-- What the code keeps while it goes from line to line: the widest so far, and where the line at hand begins. With
-- that line and those behind it, it comes to the widest of all.
use Rattle.std.specs.Prelude.{ℕ, ℤ, List, drop, slice_range}
use Rattle.std.specs.Int.{int_max}
use Rattle.lay_measure.specs.LineWidths.{lines_of, widest}
use Rattle.lay_measure.specs.declared.inline_widths.Lines.{Lines}
use Rattle.lay_measure.specs.declared.line_parts.LinePart.{LinePart}
use Rattle.lay_measure.specs.declared.pen.Breaking.{Breaking}

abbrev pub widest_with : Breaking → ℤ → List LinePart → Lines → ℕ → ℤ
widest_with how tab parts l k = int_max l.widest.0 (widest how tab l.start (lines_of how (slice_range parts l.from k) (drop k parts)))
