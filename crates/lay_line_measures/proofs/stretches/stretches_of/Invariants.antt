use Rattle.std.proofs.Common.{◌≡◌, ◌++◌, [], true, drop}
use Rattle.lay_line_measures.specs.Stretches.{stretches_of}
use Rattle.lay_line_measures.proofs.stretches.stretches_of.Given as goal

abbrev pub invariant-loop-k : goal.invariant-loop-k
invariant-loop-k l =
    (l.stretches.items ++ stretches_of l.measures l.container l.measured.ahead (drop l.k l.segments) ≡ stretches_of l.measures l.container true l.segments)
    × (l.measured.heads.items ≡ []) × (l.measured.parts.items ≡ []) × (l.measured.floats.items ≡ [])
