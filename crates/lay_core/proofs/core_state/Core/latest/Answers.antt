use Rattle.std.proofs.Common.{refl, rules}
use Rattle.lay_core.specs.CoreLaws.ReachedCores.{latest}
use Rattle.lay_core.proofs.CoreLawsLemmas.LeadsOn.{leads_on}
use Rattle.lay_core.proofs.Kept.{call_room}
use Rattle.lay_core.proofs.PartsSteps.{latest_leaves, latest_room_of, shows_latest_of}
use Rattle.lay_core.proofs.core_state.Core.latest.Goals as goal

pub shown_latest-reply-requires-clause-room : goal.shown_latest-reply-requires-clause-room
shown_latest-reply-requires-clause-room c =
    let some = rw (← c.self.view_is) at c.requires.calls in
    call_room _ _ _ c.self.invariant.0 some _ refl

pub push_reserved-requires : goal.push_reserved-requires
push_reserved-requires c =
    let some = rw (← c.self.view_is) at c.requires.calls in
    rw (c.shown_latest-reply.ensures.capacity)
    (latest_room_of _ _ _ c.self.invariant.0 some c.shown_latest-reply.new.cells c.shown_latest-reply.new.history.items c.shown_latest-reply.new.trees.items
    c.shown_latest-reply.result c.shown_latest-reply.ensures.shows c.sound.ensures _ (search rules))

pub invariant_of-self : goal.invariant_of-self
invariant_of-self c =
    let some = rw (← c.self.view_is) at c.requires.calls in
    let kept = latest_leaves _ _ _ c.self.invariant.0 c.self.invariant.1 some c.args.editor c.args.index c.shown_latest-reply.new.cells
    c.shown_latest-reply.new.history.items c.shown_latest-reply.new.trees.items c.shown_latest-reply.result
    c.shown_latest-reply.ensures.shows c.shown_latest-reply.ensures.draws c.sound.ensures in
    rw (c.push_reserved.ensures.items, c.push_reserved.ensures.capacity, c.shown_latest-reply.ensures.capacity) (
      kept.0,
      kept.1,
      leads_on _ _ c.self.invariant.2 (latest c.args.editor c.args.index c.shown_latest-reply.result _ (
          shows_latest_of _ _ refl c.args.editor c.args.index c.shown_latest-reply.new.cells c.shown_latest-reply.new.history.items
          c.shown_latest-reply.new.trees.items c.shown_latest-reply.result c.shown_latest-reply.ensures.shows
          )) kept.0.is_core,
    )

pub returns-clause-shows : goal.returns-clause-shows
returns-clause-shows c =
    rw (c.push_reserved.ensures.items)
    (shows_latest_of _ _ c.self.view_is c.args.editor c.args.index c.shown_latest-reply.new.cells c.shown_latest-reply.new.history.items
    c.shown_latest-reply.new.trees.items c.shown_latest-reply.result c.shown_latest-reply.ensures.shows)
