use Rattle.std.proofs.Common.{◌≡◌, false, refl}
use Rattle.lay_lines.proofs.ContentLemmas.Outcomes.{not_both, at_err}
use Rattle.lay_lines.specs.Meeting.{state_of}
use Rattle.lay_lines.proofs.Steps.{stretch_is, takes_from, takes_to, can_from}
use Rattle.lay_lines.proofs.taking.take_next.Goals as goal

pub returns-then-not-is_taken-clause-full : goal.returns-then-not-is_taken-clause-full
returns-then-not-is_taken-clause-full c _ fit = not_both false (c.if-not-is_taken.ensures.1 fit) refl

pub meet_after-requires-clause-floats : goal.meet_after-requires-clause-floats
meet_after-requires-clause-floats c =
    let k = c.args.reach.now.count in
    let s = c.index-line-reach.result in
    let is = stretch_is c.args.line.now.stretches.now k s c.requires.some c.index-line-reach.is in
    let same : c.as_slice-list.result.now ≡ s.floats = cc in
    can_from c.args.line.now.frame c.args.line.now.top.0 c.args.line.now.stretches.now k c.next-next.result.count s c.as_slice-list.result.now (state_of c.args.floats.now c.args.met.now) c.next-next.ensures.count same (c.requires.floats s is)

pub returns-in_err-meet_after-clause-stopped : goal.returns-in_err-meet_after-clause-stopped
returns-in_err-meet_after-clause-stopped c =
    let k = c.args.reach.now.count in
    let s = c.index-line-reach.result in
    let is = stretch_is c.args.line.now.stretches.now k s c.requires.some c.index-line-reach.is in
    let same : c.as_slice-list.result.now ≡ s.floats = cc in
    at_err c.from_residual.result _ (λ after t. c.in_err-meet_after.ensures.stopped after
    (takes_to c.args.line.now.frame c.args.line.now.top.0 c.args.line.now.stretches.now k c.next-next.result.count s c.as_slice-list.result.now (state_of c.args.floats.now c.args.met.now) after is c.next-next.ensures.count same t))

pub returns-in_err-meet_after-clause-stopped_in : goal.returns-in_err-meet_after-clause-stopped_in
returns-in_err-meet_after-clause-stopped_in c = at_err c.from_residual.result _ (c.if-not-is_taken.ensures.0 refl)

pub returns-clause-takes : goal.returns-clause-takes
returns-clause-takes c _ =
    let k = c.args.reach.now.count in
    let s = c.index-line-reach.result in
    let is = stretch_is c.args.line.now.stretches.now k s c.requires.some c.index-line-reach.is in
    let same : c.as_slice-list.result.now ≡ s.floats = cc in
    takes_from c.args.line.now.frame c.args.line.now.top.0 c.args.line.now.stretches.now k c.next-next.result.count s c.as_slice-list.result.now (state_of c.args.floats.now c.args.met.now)
    (state_of c.meet_after.new.floats c.meet_after.new.met) is c.next-next.ensures.count same c.in_ok-meet_after.ensures.meets

pub returns-clause-fits : goal.returns-clause-fits
returns-clause-fits c _ = c.if-not-is_taken.ensures.0 refl
