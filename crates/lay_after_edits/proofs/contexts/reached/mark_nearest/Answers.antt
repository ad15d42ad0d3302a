use Rattle.std.proofs.Common.{arith, refl, ap, slice_index}
use Rattle.lay_after_edits.proofs.ContextsLemmas.NearSteps.{both-marked, parent-within}
use Rattle.lay_after_edits.proofs.contexts.reached.mark_nearest.Goals as goal

pub bounds-near-parent_place : goal.bounds-near-parent_place
bounds-near-parent_place c =
    let up = parent-within c.args.doc.now.nodes c.nodes.ensures.valid.tree c.args.k c.requires.here in
    omega (arith, up, c.parent_place.ensures, c.requires.count)

pub returns : goal.returns
returns c =
    both-marked c.args.doc.now.nodes c.args.near.now c.args.k (slice_index c.args.near.now c.args.k) (slice_index c.args.near.now c.parent_place.result) c.args.reached.now.items c.mark.new.flags.items c.mark-2.new.flags.items c.mark.ensures c.mark-2.ensures
    refl (ap (slice_index c.args.near.now) c.parent_place.ensures)
