use Rattle.std.proofs.Common.{◌∙◌, refl, ap}
use Rattle.unicode_segmentation.specs.Iter.{graphemes_left}
use Rattle.lay_face.specs.declared.clusters.Setting.{Setting}
use Rattle.lay_face.proofs.ClusterSums.{clusters_fill, placed_more, filled_more, width_next}
use Rattle.lay_face.proofs.face.Face.cluster_widths.Goals as goal

pub loop-cluster-init : goal.loop-cluster-init
loop-cluster-init c =
    let left = ap graphemes_left c.into_iter-cluster-iterator.ensures.into_iter_gives ∙ c.graphemes-cluster-items.ensures.left in
    (tt, tt, rw (c.new-widths.ensures.items, left) refl, clusters_fill _ _ c.utf8.text left)

pub loop-cluster-preserved : goal.loop-cluster-preserved
loop-cluster-preserved c =
    let setting : Setting = record { size = c.args.size; letter = c.args.letter; word = c.args.word } in (
      tt,
      tt,
      rw c.in_ok-put_width.ensures (placed_more c.args.self.now setting _ _ _ _ _ _ _ c.loop-cluster.invariant.2 c.in-Some.ensures.steps c.cluster_width-width.ensures),
      filled_more _ _ _ _ _ c.loop-cluster.invariant.3 c.in-Some.ensures.steps,
    )

pub cluster_width-width-requires-clause-width : goal.cluster_width-width-requires-clause-width
cluster_width-width-requires-clause-width c =
    let setting : Setting = record { size = c.args.size; letter = c.args.letter; word = c.args.word } in
    width_next c.args.self.now setting _ _ _ _ _ _ c.loop-cluster.invariant.2 c.in-Some.ensures.steps c.requires.widths
