use Rattle.std.proofs.lemmas.Option.{slice_get-get_or}
use Rattle.lay_lines.proofs.ContentLemmas.Outcomes.{at_err}
use Rattle.lay_lines.specs.Meeting.{state_of, MeetsAt}
use Rattle.lay_lines.proofs.Chains.{chain_more}
use Rattle.lay_lines.proofs.Fronts.{meets_stopped}
use Rattle.lay_lines.proofs.meeting.meet_all.Goals as goal

pub meet-requires-clause-rooms : goal.meet-requires-clause-rooms
meet-requires-clause-rooms c = c.requires.floats.rooms c.loop-float.float-index (state_of c.loop-float.floats c.loop-float.met) c.loop-float.invariant

pub meet-requires-clause-float : goal.meet-requires-clause-float
meet-requires-clause-float c =
    c.requires.floats.meets c.loop-float.float-index (state_of c.loop-float.floats c.loop-float.met) _ c.loop-float.invariant
    (slice_get-get_or c.args.list.now c.loop-float.float-index _ c.loop-float-test.true)

pub loop-float-preserved : goal.loop-float-preserved
loop-float-preserved c =
    chain_more (MeetsAt c.args.line.now.frame c.args.line.now.top.0 c.args.line.now.stretches.now c.args.reach.now.count c.args.list.now) c.loop-float.float-index _
    (state_of c.loop-float.floats c.loop-float.met) _ c.loop-float.invariant
    (_, slice_get-get_or c.args.list.now c.loop-float.float-index _ c.loop-float-test.true, c.in_ok-meet.ensures.meets)

pub returns-in_err-meet-clause-stopped : goal.returns-in_err-meet-clause-stopped
returns-in_err-meet-clause-stopped c =
    let list = c.args.list.now in
    let j = c.loop-float.float-index in
    at_err c.from_residual.result _ (λ after all. meets_stopped c.one_float_place.ensures c.args.line.now.frame c.args.line.now.top.0 c.args.line.now.stretches.now c.args.reach.now.count list
    (state_of c.args.floats.now c.args.met.now) (state_of c.loop-float.floats c.loop-float.met) after j _ c.meet.new.floats
    c.loop-float.invariant c.loop-float-test.true (slice_get-get_or list j _ c.loop-float-test.true) c.in_err-meet.ensures.stopped all)
