use Rattle.std.proofs.Common.{sym, ◌∙◌}
use Rattle.lay_context.proofs.TreeSteps.{list_next, skip_next, tree_in_range}
use Rattle.lay_context.proofs.assembling.tree_of.Goals as goal
use Rattle.lay_context.proofs.assembling.tree_of.Goals.{then-not-is_anonymous+in_ok-context+in_ok-pieces+in_ok-push, else-not-is_anonymous}

pub new-requires : goal.new-requires
new-requires g c = tree_in_range _ c.loop-i.tree.items c.loop-i.pieces c.loop-i.invariant

pub loop-i-preserved : goal.loop-i-preserved
loop-i-preserved g c = elim c.if-not-is_anonymous.branch [
  | then-not-is_anonymous+in_ok-context+in_ok-pieces+in_ok-push w ↦ (
      let pushed = (w.in_ok-push.ensures {u = tt}).items in
      let found = w.in_ok-context.ensures {u = tt} in
      let total = w.in_ok-pieces.ensures {u = tt} in
      let of_element = rw c.at.ensures.context at (sym c.is_anonymous.ensures ∙ w.if-not-is_anonymous.true) in
      rw (w.tree-is, w.pieces-is, pushed)
      (list_next c.args.on_page.now.laid.contexts.now (g.V.Values.workings c.args.on_page.now.laid.known.now) c.args.on_page.now.corners.now c.loop-i.i c.loop-i.tree.items c.loop-i.pieces w.in_ok-pieces.pieces w.in_ok-context.context of_element found.value c.loop-i.invariant found.range total.count total.few))
  | else-not-is_anonymous w ↦ (
      let anonymous = rw c.at.ensures.context at (sym (w.if-not-is_anonymous.ensures {u = tt})) in
      rw (w.tree-is, w.pieces-is)
      (skip_next c.args.on_page.now.laid.contexts.now (g.V.Values.workings c.args.on_page.now.laid.known.now) c.args.on_page.now.corners.now c.loop-i.i c.loop-i.tree.items c.loop-i.pieces anonymous c.loop-i.invariant))
]
