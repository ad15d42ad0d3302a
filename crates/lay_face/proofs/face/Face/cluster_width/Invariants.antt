use Rattle.std.specs.Str.Iter.{chars_rest}
use Rattle.lay_face.proofs.ClusterSums.{IsSummed}
use Rattle.lay_face.proofs.face.Face.cluster_width.Given as goal

abbrev pub invariant-loop-c : goal.invariant-loop-c
invariant-loop-c l =
    (goal.iterator-loop-c).can_next l.c-iterator × (goal.iterator-loop-c).is_finite l.c-iterator
    × IsSummed l.self l.setting l.cluster (chars_rest l.c-iterator) l.total
