use Rattle.std.proofs.Common.{inl, inr}
use Rattle.lay_core.proofs.PartsSteps.{always_on_err, on_err, on_err_both, on_ok, refreshes_parts, settles_parts, stops_parts}
use Rattle.lay_core.proofs.publishing.refreshed.Goals as goal

pub returns-in_err-settled-clause-err : goal.returns-in_err-settled-clause-err
returns-in_err-settled-clause-err c =
    always_on_err c.from_residual.result _
    (stops_parts c.args.cells.now c.settled.new.cells c.args.history.now.items c.args.trees.now.items (c.in_err-settled.ensures {u = tt}).err)

pub returns-clause-ok : goal.returns-clause-ok
returns-clause-ok c =
    on_ok c.published.result _ _
    (refreshes_parts c.args.cells.now c.settled.new.cells c.args.history.now.items c.published.new.history.items c.args.trees.now.items c.published.new.trees.items
    (c.in_ok-settled.ensures {u = tt}).ok)
    c.published.ensures.ok

pub returns-clause-err : goal.returns-clause-err
returns-clause-err c =
    on_err_both c.published.result _ _ _
    (settles_parts c.args.cells.now c.settled.new.cells c.args.history.now.items c.published.new.history.items c.args.trees.now.items c.published.new.trees.items
    (c.in_ok-settled.ensures {u = tt}).ok)
    c.published.ensures.same_history c.published.ensures.same_trees

pub returns-in_err-settled-clause-cause : goal.returns-in_err-settled-clause-cause
returns-in_err-settled-clause-cause c = always_on_err c.from_residual.result _ (inl (c.in_err-settled.ensures {u = tt}).dirty)

pub returns-clause-cause : goal.returns-clause-cause
returns-clause-cause c = on_err c.published.result _ _ (λ other. inr other) c.published.ensures.other
