use Rattle.std.proofs.Common.{◌<◌, arith, slice_index}
use Rattle.lay_doc.specs.Document.{parents_of}
use Rattle.lay_doc.proofs.NodeColumns.{length-parents}
use Rattle.lay_doc.proofs.Slots.{end_slot}
use Rattle.lay_doc.proofs.placing.subtree_end.Goals as goal

pub returns-then-parent_at-parent : goal.returns-then-parent_at-parent
returns-then-parent_at-parent c =
    let parents = parents_of c.args.nodes.now in
    let len = length-parents c.args.nodes.now in
    let low : slice_index parents c.loop-at.at < c.args.parent = omega arith in
    end_slot parents c.requires.tree c.args.parent c.loop-at.at (omega arith) (omega arith) c.loop-at.invariant low
