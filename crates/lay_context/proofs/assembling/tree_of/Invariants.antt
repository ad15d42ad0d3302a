use Rattle.lay_context.specs.Solves.{page_contexts}
use Rattle.lay_context.proofs.TreeSteps.{TreeTo}
use Rattle.lay_context.proofs.assembling.tree_of.Given as goal

abbrev pub invariant-loop-i : goal.invariant-loop-i
invariant-loop-i g l = TreeTo (page_contexts l.on_page.laid.contexts.now (g.V.Values.workings l.on_page.laid.known.now) l.on_page.corners.now l.i) l.tree.items l.pieces
