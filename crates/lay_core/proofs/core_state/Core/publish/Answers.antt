use Rattle.std.proofs.Common.{refl, subst}
use Rattle.lay_cells.specs.Reads.{IsFirstDirtyKey}
use Rattle.lay_core.specs.State.{State}
use Rattle.lay_core.proofs.Kept.{publish_room}
use Rattle.lay_core.proofs.CoreLawsLemmas.LeadsOn.{leads_on}
use Rattle.lay_core.proofs.PartsSteps.{publish_called, publish_leaves, publishes_of}
use Rattle.lay_core.proofs.core_state.Core.publish.Goals as goal

pub returns-in-Some : goal.returns-in-Some
returns-in-Some c = (subst (λ (x : State). IsFirstDirtyKey x.cells.rows c.in-Some.key) c.self.view_is (c.in-Some.ensures {u = tt}).some, refl)

pub published-published-requires-clause-room : goal.published-published-requires-clause-room
published-published-requires-clause-room c = λ other. publish_room _ _ _ c.self.invariant.0 other _ refl

pub invariant_of-self : goal.invariant_of-self
invariant_of-self c =
    let kept = publish_leaves c.published-published.result _ _ _ c.self.invariant.0 c.published-published.new.history.items
    c.published-published.new.trees.items c.published-published.ensures.ok c.published-published.ensures.same_history
    c.published-published.ensures.same_trees in
    rw (c.published-published.ensures.capacity) (
      kept,
      c.self.invariant.1,
      leads_on _ _ c.self.invariant.2
          (publish_called c.published-published.result _ _ _ c.self.invariant.0 (c.in_default.ensures {u = tt}).none c.published-published.new.history.items
          c.published-published.new.trees.items c.published-published.ensures.ok c.published-published.ensures.other
          c.published-published.ensures.same_history c.published-published.ensures.same_trees) kept.is_core,
    )

pub returns : goal.returns
returns c =
    publishes_of c.published-published.result _ _ _ _ c.self.view_is c.self.invariant.0 (c.in_default.ensures {u = tt}).none
    c.published-published.new.history.items c.published-published.new.trees.items c.answer_of.result
    c.published-published.ensures.ok c.published-published.ensures.other c.published-published.ensures.same_history c.published-published.ensures.same_trees
    c.answer_of.ensures.ok c.answer_of.ensures.err
