use Rattle.std.proofs.Common.{◌≡◌, ℤ, [], refl, sym, subst}
use Rattle.lay_lines.proofs.ContentLemmas.Outcomes.{at_err}
use Rattle.lay_lines.specs.Meeting.{State, state_of, CanMeetAll, Meets}
use Rattle.lay_lines.specs.Rows.{emptied, line_row, position_of}
use Rattle.lay_lines.proofs.Chains.{front_trans}
use Rattle.lay_lines.proofs.Steps.{same_states, takes_some, top_fits, heads_from, heads_to, can_heads}
use Rattle.lay_lines.proofs.LineLists.{one_filled, row_front}
use Rattle.lay_lines.proofs.row.put_row.Goals as goal

pub invariant_of-under-clause-top_fits : goal.invariant_of-under-clause-top_fits
invariant_of-under-clause-top_fits c =
    let fr = c.args.rest.now.frame in
    let from = c.args.rest.now.top.0 in
    let ss = c.args.rest.now.stretches.now in
    let st = state_of c.args.floats.now c.args.met.now in
    let p = position_of fr from c.args.boxes.now.items ss st in
    let y = c.in_ok-ended.ended.to.0 in
    let filled = state_of c.fill_row.new.floats c.fill_row.new.met in
    let w = c.in_ok-ended.ensures.filled in
    let ours = line_row c.in_ok-ended.ended w.0 filled st in
    c.requires.can.to ours (w.1 st)

pub meet_all-requires-clause-floats : goal.meet_all-requires-clause-floats
meet_all-requires-clause-floats c =
    let fr = c.args.rest.now.frame in
    let from = c.args.rest.now.top.0 in
    let ss = c.args.rest.now.stretches.now in
    let st = state_of c.args.floats.now c.args.met.now in
    let p = position_of fr from c.args.boxes.now.items ss st in
    let y = c.in_ok-ended.ended.to.0 in
    let filled = state_of c.fill_row.new.floats c.fill_row.new.met in
    let w = c.in_ok-ended.ensures.filled in
    let ours = line_row c.in_ok-ended.ended w.0 filled st in
    let none : [] ≡ c.replace-waiting.new.dest.items = cc in
    let list : c.as_slice.result.now ≡ filled.put_off = cc in
    let same = same_states filled.floats c.fill_row.new.floats filled.places c.fill_row.new.met.places.items [] c.replace-waiting.new.dest.items refl refl none in
    subst (λ (s : State). CanMeetAll fr y ss c.none-blank.result.count c.as_slice.result.now s) same
    (can_heads fr y ss c.none-blank.result.count filled.put_off c.as_slice.result.now (emptied filled) c.none-blank.ensures.count list (c.requires.can.later ours (w.1 st)))

pub returns-clause-row : goal.returns-clause-row
returns-clause-row c =
    let fr = c.args.rest.now.frame in
    let from = c.args.rest.now.top.0 in
    let ss = c.args.rest.now.stretches.now in
    let st = state_of c.args.floats.now c.args.met.now in
    let p = position_of fr from c.args.boxes.now.items ss st in
    let y = c.in_ok-ended.ended.to.0 in
    let filled = state_of c.fill_row.new.floats c.fill_row.new.met in
    let w = c.in_ok-ended.ensures.filled in
    let ours = line_row c.in_ok-ended.ended w.0 filled st in
    let none : [] ≡ c.replace-waiting.new.dest.items = cc in
    let list : c.as_slice.result.now ≡ filled.put_off = cc in
    let same = same_states filled.floats c.fill_row.new.floats filled.places c.fill_row.new.met.places.items [] c.replace-waiting.new.dest.items refl refl none in
    let after = state_of c.meet_all.new.floats c.meet_all.new.met in
    let met = subst (λ (s : State). Meets fr y ss c.none-blank.result.count c.as_slice.result.now s after) (sym same) c.in_ok-meet_all.ensures.meets in
    (w.0, filled, record { filled = w.1 after; later = heads_from fr y ss c.none-blank.result.count filled.put_off c.as_slice.result.now (emptied filled) after c.none-blank.ensures.count list met })

pub returns-clause-within : goal.returns-clause-within
returns-clause-within c = let w = c.in_ok-ended.ensures.filled in let f = w.1 (state_of c.args.floats.now c.args.met.now) in f.count_is.can.within

pub returns-clause-some : goal.returns-clause-some
returns-clause-some c =
    let w = c.in_ok-ended.ensures.filled in
    let f = w.1 (state_of c.args.floats.now c.args.met.now) in
    takes_some c.args.rest.now.frame c.in_ok-ended.ended.top.0 c.args.rest.now.stretches.now w.0 c.in_ok-ended.ended.reach.count c.requires.some
    (top_fits c.args.rest.now.frame c.in_ok-ended.ended.top.0 c.args.rest.now.stretches.now w.0.floats f.top_is.begins) f.count_is

pub returns-in_err-ended-clause-stopped : goal.returns-in_err-ended-clause-stopped
returns-in_err-ended-clause-stopped c =
    let fr = c.args.rest.now.frame in
    let from = c.args.rest.now.top.0 in
    let ss = c.args.rest.now.stretches.now in
    let st = state_of c.args.floats.now c.args.met.now in
    let p = position_of fr from c.args.boxes.now.items ss st in
    at_err c.from_residual.result _ (λ r a. front_trans _ _ _ (c.in_err-ended.ensures.stopped r a.filled) (row_front p r a))

pub returns-in_err-meet_all-clause-stopped : goal.returns-in_err-meet_all-clause-stopped
returns-in_err-meet_all-clause-stopped c =
    let fr = c.args.rest.now.frame in
    let from = c.args.rest.now.top.0 in
    let ss = c.args.rest.now.stretches.now in
    let st = state_of c.args.floats.now c.args.met.now in
    let p = position_of fr from c.args.boxes.now.items ss st in
    let y = c.in_ok-ended.ended.to.0 in
    let filled = state_of c.fill_row.new.floats c.fill_row.new.met in
    let w = c.in_ok-ended.ensures.filled in
    let ours = line_row c.in_ok-ended.ended w.0 filled st in
    let none : [] ≡ c.replace-waiting.new.dest.items = cc in
    let list : c.as_slice.result.now ≡ filled.put_off = cc in
    let same = same_states filled.floats c.fill_row.new.floats filled.places c.fill_row.new.met.places.items [] c.replace-waiting.new.dest.items refl refl none in
    at_err c.from_residual-in_err-meet_all.result _ (λ r a.
    (let e = one_filled (record { place = c.one_float_place.ensures; room = c.one_room.ensures }) p r ours a.filled (w.1 st) in
    let later = subst (λ (z : ℤ). Meets fr z ss 0 r.filled.put_off (emptied r.filled) r.after) e.to a.later in
    let at_ours = subst (λ (z : State). Meets fr y ss 0 z.put_off (emptied z) r.after) e.filled later in
    let with_list = heads_to fr y ss c.none-blank.result.count filled.put_off c.as_slice.result.now (emptied filled) r.after c.none-blank.ensures.count list at_ours in
    c.in_err-meet_all.ensures.stopped r.after (subst (λ (s : State). Meets fr y ss c.none-blank.result.count c.as_slice.result.now s r.after) same with_list)))
