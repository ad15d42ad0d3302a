use Rattle.std.proofs.Common.{arith}
use Rattle.lay_after_edits.proofs.Cited.{length-parents}
use Rattle.lay_after_edits.proofs.contexts.near.near_above.Goals as goal

pub bounds-near-parent_place : goal.bounds-near-parent_place
bounds-near-parent_place c =
    let before = c.nodes.ensures.valid.tree.before c.args.k (omega (arith, c.if-k-eq0.false)) (omega (arith, c.requires.here, length-parents c.args.doc.now.nodes)) in
    omega (arith, before, c.parent_place.ensures, c.requires.known)
