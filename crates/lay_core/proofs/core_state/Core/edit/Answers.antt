use Rattle.std.proofs.Common.{refl, rules}
use Rattle.lay_core.specs.CoreLaws.ReachedCores.{edit}
use Rattle.lay_core.proofs.CoreLawsLemmas.LeadsOn.{leads_on}
use Rattle.lay_core.proofs.Kept.{accepted_small, call_room, edit_leaves, edits_of}
use Rattle.lay_core.proofs.core_state.Core.edit.Goals as goal

pub edited-reply-requires-clause-few : goal.edited-reply-requires-clause-few
edited-reply-requires-clause-few c = accepted_small _ _ _ c.self.invariant.0

pub push_reserved-requires : goal.push_reserved-requires
push_reserved-requires c =
    let some = rw (← c.self.view_is) at c.requires.calls in
    call_room _ _ _ c.self.invariant.0 some _ (search rules)

pub invariant_of-self : goal.invariant_of-self
invariant_of-self c =
    let some = rw (← c.self.view_is) at c.requires.calls in
    let kept = edit_leaves _ _ _ c.self.invariant.0 c.self.invariant.1 some c.args.editor c.args.index c.args.edits c.edited-reply.result
    c.edited-reply.new.cells c.edited-reply.new.accepted c.edited-reply.ensures.change c.edited-reply.ensures.draws c.sound.ensures in
    rw (c.push_reserved.ensures.items, c.push_reserved.ensures.capacity) (
      kept.0,
      kept.1,
      leads_on _ _ c.self.invariant.2 (edit c.args.editor c.args.index c.args.edits c.edited-reply.result _ (
          edits_of _ _ _ _ refl c.self.invariant.0 c.args.editor c.args.index c.args.edits c.edited-reply.result c.edited-reply.new.cells
          c.edited-reply.new.accepted c.edited-reply.ensures.change
          )) kept.0.is_core,
    )

pub returns-clause-edits : goal.returns-clause-edits
returns-clause-edits c =
    rw (c.push_reserved.ensures.items)
    (edits_of _ _ _ _ c.self.view_is c.self.invariant.0 c.args.editor c.args.index c.args.edits c.edited-reply.result c.edited-reply.new.cells
    c.edited-reply.new.accepted c.edited-reply.ensures.change)
