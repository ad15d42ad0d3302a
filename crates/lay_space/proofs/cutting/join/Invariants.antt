use Rattle.std.proofs.Common.{◌≡◌, ◌++◌, drop, length, string_bytes}
use Rattle.lay_space.specs.Segments.{joined, placed}
use Rattle.lay_space.proofs.cutting.join.Given as goal

abbrev pub invariant-loop-k : goal.invariant-loop-k
invariant-loop-k l =
    (string_bytes l.text ++ joined l.items (drop l.k l.clusters) ≡ joined l.items l.clusters)
    × (l.widths.items ++ placed l.items (length (string_bytes l.text)) (drop l.k l.clusters) ≡ placed l.items 0 l.clusters)
