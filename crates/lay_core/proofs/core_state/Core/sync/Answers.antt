use Rattle.std.proofs.Common.{refl, rules}
use Rattle.lay_core.specs.CoreLaws.ReachedCores.{sync}
use Rattle.lay_core.proofs.CoreLawsLemmas.LeadsOn.{leads_on}
use Rattle.lay_core.proofs.Kept.{call_room}
use Rattle.lay_core.proofs.PartsSteps.{behind_of, sync_leaves, sync_room_of, syncs_of}
use Rattle.lay_core.proofs.core_state.Core.sync.Goals as goal

pub shown_present-reply-requires-clause-room : goal.shown_present-reply-requires-clause-room
shown_present-reply-requires-clause-room c =
    let some = rw (← c.self.view_is) at c.requires.calls in
    call_room _ _ _ c.self.invariant.0 some _ refl

pub push_reserved-requires : goal.push_reserved-requires
push_reserved-requires c =
    let some = rw (← c.self.view_is) at c.requires.calls in
    rw (c.shown_present-reply.ensures.capacity)
    (sync_room_of _ _ _ c.self.invariant.0 some c.shown_present-reply.new.cells c.shown_present-reply.new.history.items c.shown_present-reply.new.trees.items
    c.shown_present-reply.result c.shown_present-reply.ensures.shows c.sound.ensures _ (search rules))

pub invariant_of-self : goal.invariant_of-self
invariant_of-self c =
    let some = rw (← c.self.view_is) at c.requires.calls in
    let kept = sync_leaves _ _ _ c.self.invariant.0 c.self.invariant.1 some c.args.editor c.args.index c.shown_present-reply.new.cells
    c.shown_present-reply.new.history.items c.shown_present-reply.new.trees.items c.shown_present-reply.result
    c.shown_present-reply.ensures.shows c.shown_present-reply.ensures.draws c.sound.ensures in
    rw (c.push_reserved.ensures.items, c.push_reserved.ensures.capacity, c.shown_present-reply.ensures.capacity) (
      kept.0,
      kept.1,
      leads_on _ _ c.self.invariant.2 (sync c.args.editor c.args.index c.shown_present-reply.result _ (
          syncs_of _ _ refl c.args.editor c.args.index c.shown_present-reply.new.cells c.shown_present-reply.new.history.items
          c.shown_present-reply.new.trees.items c.shown_present-reply.result c.shown_present-reply.ensures.shows
          )) kept.0.is_core,
    )

pub returns-clause-shows : goal.returns-clause-shows
returns-clause-shows c =
    rw (c.push_reserved.ensures.items)
    (syncs_of _ _ c.self.view_is c.args.editor c.args.index c.shown_present-reply.new.cells c.shown_present-reply.new.history.items
    c.shown_present-reply.new.trees.items c.shown_present-reply.result c.shown_present-reply.ensures.shows)

pub returns-clause-cause : goal.returns-clause-cause
returns-clause-cause c = λ lacks. behind_of _ _ _ _ c.self.view_is c.self.invariant.0 (c.shown_present-reply.ensures.cause lacks)
