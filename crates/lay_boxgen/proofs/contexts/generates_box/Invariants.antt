use Rattle.std.proofs.Common.{◌<◌, ◌↔◌, length}
use Rattle.lay_boxgen.specs.Contexts.{GeneratesBox}
use Rattle.lay_boxgen.proofs.contexts.generates_box.Given as goal

-- the node generates a box where the one that the walk has come to does
abbrev pub invariant-loop-at : goal.invariant-loop-at
invariant-loop-at l = (l.at < length l.nodes) × (GeneratesBox l.nodes l.styles l.at ↔ GeneratesBox l.nodes l.styles l.place)

abbrev pub decreases-loop-at : goal.decreases-loop-at
decreases-loop-at l = l.at
