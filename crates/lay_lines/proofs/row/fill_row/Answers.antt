use Rattle.std.proofs.Common.{◌∙◌, ◌||◌, ◌+ℤ◌, if◌then◌else◌, refl, ap, sym}
use Rattle.lay_lines.specs.declared.content.frame.Extent.{Extent}
use Rattle.lay_lines.specs.Content.Extents.{any_shows, height_of}
use Rattle.lay_lines.proofs.ContentLemmas.Outcomes.{at_err}
use Rattle.lay_lines.proofs.ContentLemmas.PenOrder.{some_at}
use Rattle.lay_lines.specs.Meeting.{State, state_of}
use Rattle.lay_lines.specs.Rows.{position_of}
use Rattle.lay_lines.proofs.Chains.{all_front, front_trans}
use Rattle.lay_lines.proofs.LineLists.{filled_front, filled_by, taking_stopped, one_taken}
use Rattle.lay_lines.proofs.row.fill_row.Goals as goal

pub returns-in_err-top-clause-stopped : goal.returns-in_err-top-clause-stopped
returns-in_err-top-clause-stopped c =
    let fr = c.args.rest.now.frame in
    let from = c.args.rest.now.top.0 in
    let ss = c.args.rest.now.stretches.now in
    let st = state_of c.args.floats.now c.args.met.now in
    let p = position_of fr from c.args.boxes.now.items ss st in
    at_err c.from_residual.result _ (λ r f. front_trans _ _ _ (c.in_err-top.ensures.stopped f.first r.headed f.is f.heads) (filled_front p r f))

pub take-requires-clause-can : goal.take-requires-clause-can
take-requires-clause-can c =
    let fr = c.args.rest.now.frame in
    let from = c.args.rest.now.top.0 in
    let ss = c.args.rest.now.stretches.now in
    let st = state_of c.args.floats.now c.args.met.now in
    let p = position_of fr from c.args.boxes.now.items ss st in
    let headed = state_of c.headed_top.new.floats c.headed_top.new.met in
    let top = c.in_ok-top.field-0.top.0 in
    let w = some_at ss 0 c.requires.some in
    let heads = c.in_ok-top.ensures.heads w.0 w.1 in
    c.requires.can.fills w.0 headed top w.1 heads c.in_ok-top.ensures.top

pub returns-in_err-reach-clause-stopped : goal.returns-in_err-reach-clause-stopped
returns-in_err-reach-clause-stopped c =
    let fr = c.args.rest.now.frame in
    let from = c.args.rest.now.top.0 in
    let ss = c.args.rest.now.stretches.now in
    let st = state_of c.args.floats.now c.args.met.now in
    let p = position_of fr from c.args.boxes.now.items ss st in
    let headed = state_of c.headed_top.new.floats c.headed_top.new.met in
    let top = c.in_ok-top.field-0.top.0 in
    let w = some_at ss 0 c.requires.some in
    let heads = c.in_ok-top.ensures.heads w.0 w.1 in
    at_err c.from_residual-in_err-reach.result _ (λ r f. taking_stopped (record { place = c.one_float_place.ensures; room = c.one_room.ensures }) p w.0 headed top c.take.new.floats r w.1 heads c.in_ok-top.ensures.top c.in_err-reach.ensures.stopped f)

pub row_shape-requires-clause-fits : goal.row_shape-requires-clause-fits
row_shape-requires-clause-fits c = c.requires.can.parts

pub returns-in_err-shape-clause-stopped : goal.returns-in_err-shape-clause-stopped
returns-in_err-shape-clause-stopped c =
    let fr = c.args.rest.now.frame in
    let from = c.args.rest.now.top.0 in
    let ss = c.args.rest.now.stretches.now in
    let st = state_of c.args.floats.now c.args.met.now in
    let p = position_of fr from c.args.boxes.now.items ss st in
    let headed = state_of c.headed_top.new.floats c.headed_top.new.met in
    let top = c.in_ok-top.field-0.top.0 in
    let w = some_at ss 0 c.requires.some in
    let heads = c.in_ok-top.ensures.heads w.0 w.1 in
    let filled = state_of c.take.new.floats c.take.new.met in
    at_err c.from_residual-in_err-shape.result _ (λ r f. all_front _ _ (ap (λ (z : State). z.floats) (sym (one_taken (record { place = c.one_float_place.ensures; room = c.one_room.ensures }) p r w.0 headed top c.in_ok-reach.reach.count filled f w.1 heads
    c.in_ok-top.ensures.top c.in_ok-reach.ensures.takes c.in_ok-reach.ensures.fills).filled_is)))

pub row_end-to-requires-clause-height : goal.row_end-to-requires-clause-height
row_end-to-requires-clause-height c = c.requires.can.height c.in_ok-reach.reach.count c.in_ok-shape.shape c.in_ok-shape.ensures.shape

pub row_end-to-requires-clause-end : goal.row_end-to-requires-clause-end
row_end-to-requires-clause-end c =
    let fr = c.args.rest.now.frame in
    let from = c.args.rest.now.top.0 in
    let ss = c.args.rest.now.stretches.now in
    let st = state_of c.args.floats.now c.args.met.now in
    let p = position_of fr from c.args.boxes.now.items ss st in
    let headed = state_of c.headed_top.new.floats c.headed_top.new.met in
    let top = c.in_ok-top.field-0.top.0 in
    let w = some_at ss 0 c.requires.some in
    let heads = c.in_ok-top.ensures.heads w.0 w.1 in
    let filled = state_of c.take.new.floats c.take.new.met in
    let reach = c.in_ok-reach.reach in
    let seen = c.is_seen-seen.result in
    let seen_is = c.is_seen-seen.ensures ∙ ap (λ b. any_shows c.args.boxes.now.items || b) c.is_seen.ensures in
    let shape = c.in_ok-shape.shape in
    let extent : Extent = record { above = shape.above; below = shape.below } in
    let to = if seen then (top +ℤ height_of extent) else from in
    let ours = filled_by p w.0 headed filled st top reach shape.shifts extent seen to w.1 heads c.in_ok-top.ensures.top c.in_ok-reach.ensures.takes c.in_ok-reach.ensures.fills c.in_ok-reach.ensures.reach c.in_ok-shape.ensures.shape seen_is refl in
    c.requires.can.to _ ours

pub returns-clause-filled : goal.returns-clause-filled
returns-clause-filled c =
    let fr = c.args.rest.now.frame in
    let from = c.args.rest.now.top.0 in
    let ss = c.args.rest.now.stretches.now in
    let st = state_of c.args.floats.now c.args.met.now in
    let p = position_of fr from c.args.boxes.now.items ss st in
    let headed = state_of c.headed_top.new.floats c.headed_top.new.met in
    let top = c.in_ok-top.field-0.top.0 in
    let w = some_at ss 0 c.requires.some in
    let heads = c.in_ok-top.ensures.heads w.0 w.1 in
    let filled = state_of c.take.new.floats c.take.new.met in
    let reach = c.in_ok-reach.reach in
    let count = reach.count in
    let reach_is = c.in_ok-reach.ensures.reach in
    let seen = c.is_seen-seen.result in
    let seen_is = c.is_seen-seen.ensures ∙ ap (λ b. any_shows c.args.boxes.now.items || b) c.is_seen.ensures in
    let shape = c.in_ok-shape.shape in
    let extent : Extent = record { above = shape.above; below = shape.below } in
    (headed, λ after. filled_by p w.0 headed filled after top reach shape.shifts extent seen c.row_end-to.result.0 w.1 heads c.in_ok-top.ensures.top c.in_ok-reach.ensures.takes c.in_ok-reach.ensures.fills reach_is c.in_ok-shape.ensures.shape seen_is c.row_end-to.ensures)
