use Rattle.std.proofs.Common.{◌≡◌, ◌++◌, drop}
use Rattle.lay_line_measures.specs.Stretches.{heads_of, floats_of, parts_of}
use Rattle.lay_line_measures.proofs.stretches.Measured.stretch_of.Given as goal

abbrev pub invariant-loop-k : goal.invariant-loop-k
invariant-loop-k l =
    (l.self.heads.items ++ heads_of l.measures l.container l.self.ahead (drop l.k l.items) ≡ heads_of l.measures l.container l.fn.self.ahead l.items)
    × (l.self.floats.items ++ floats_of l.measures l.container l.self.ahead (drop l.k l.items) ≡ floats_of l.measures l.container l.fn.self.ahead l.items)
    × (l.self.parts.items ++ parts_of l.measures (drop l.k l.items) ≡ parts_of l.measures l.items)
