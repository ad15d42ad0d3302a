use Rattle.std.proofs.Common.{◌≡◌, ◌+◌, ◌++◌, length}
use Rattle.std.specs.List.{concat}
use Rattle.unicode_segmentation.specs.Iter.{graphemes_left}
use Rattle.lay_face.specs.Clusters.{placed_widths, widths_of}
use Rattle.lay_face.proofs.face.Face.cluster_widths.Given as goal

abbrev pub invariant-loop-cluster : goal.invariant-loop-cluster
invariant-loop-cluster l =
    (goal.iterator-loop-cluster).can_next l.cluster-iterator × (goal.iterator-loop-cluster).is_finite l.cluster-iterator
    × (l.widths.items ++ placed_widths l.self l.setting l.place (graphemes_left l.cluster-iterator) ≡ widths_of l.self l.setting l.text)
    × (l.place + length (concat (graphemes_left l.cluster-iterator)) ≡ length l.text)
