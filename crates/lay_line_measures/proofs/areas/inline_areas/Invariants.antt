use Rattle.std.proofs.Common.{◌≡◌}
use Rattle.std.specs.List.{All}
use Rattle.lay_line_measures.specs.AreaBounds.{AreaNear}
use Rattle.lay_line_measures.specs.InlineBoxes.{areas_to}
use Rattle.lay_line_measures.proofs.areas.inline_areas.Given as goal

abbrev pub invariant-loop-k : goal.invariant-loop-k
invariant-loop-k l = (l.areas.items ≡ areas_to l.measures l.k) × All AreaNear l.areas.items
