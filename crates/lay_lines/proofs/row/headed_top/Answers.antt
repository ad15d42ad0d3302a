use Rattle.std.proofs.Common.{◌≡◌, ◌∙◌, sym, subst}
use Rattle.std.proofs.lemmas.Option.{same_Some}
use Rattle.lay_lines.specs.declared.content.content.Stretch.{Stretch}
use Rattle.lay_lines.proofs.ContentLemmas.Outcomes.{at_err}
use Rattle.lay_lines.specs.Meeting.{state_of, Meets}
use Rattle.lay_lines.proofs.Steps.{stretch_is, heads_to, heads_from, can_heads}
use Rattle.lay_lines.proofs.row.headed_top.Goals as goal

pub meet_all-requires-clause-floats : goal.meet_all-requires-clause-floats
meet_all-requires-clause-floats c =
    let s = c.index-start-0.result in
    let is = stretch_is c.args.start.now.stretches.now 0 s c.requires.some c.index-start-0.is in
    let same : c.as_slice-heads.result.now ≡ s.heads = cc in
    can_heads c.args.start.now.frame c.args.start.now.top.0 c.args.start.now.stretches.now c.none-blank.result.count s.heads c.as_slice-heads.result.now (state_of c.args.floats.now c.args.met.now) c.none-blank.ensures.count same (c.requires.heads s is)

pub line_top-requires-clause-rooms : goal.line_top-requires-clause-rooms
line_top-requires-clause-rooms c =
    let s = c.index-start-0.result in
    let is = stretch_is c.args.start.now.stretches.now 0 s c.requires.some c.index-start-0.is in
    let same : c.as_slice-heads.result.now ≡ s.heads = cc in
    c.requires.rooms s (state_of c.meet_all.new.floats c.meet_all.new.met) is
    (heads_from c.args.start.now.frame c.args.start.now.top.0 c.args.start.now.stretches.now c.none-blank.result.count s.heads c.as_slice-heads.result.now (state_of c.args.floats.now c.args.met.now)
    (state_of c.meet_all.new.floats c.meet_all.new.met) c.none-blank.ensures.count same c.in_ok-meet_all.ensures.meets)

pub returns-clause-heads : goal.returns-clause-heads
returns-clause-heads c t at =
    let s = c.index-start-0.result in
    let is = stretch_is c.args.start.now.stretches.now 0 s c.requires.some c.index-start-0.is in
    let same : c.as_slice-heads.result.now ≡ s.heads = cc in
    let st = state_of c.args.floats.now c.args.met.now in
    let after = state_of c.meet_all.new.floats c.meet_all.new.met in
    let ours = heads_from c.args.start.now.frame c.args.start.now.top.0 c.args.start.now.stretches.now c.none-blank.result.count s.heads c.as_slice-heads.result.now st after c.none-blank.ensures.count same c.in_ok-meet_all.ensures.meets in
    subst (λ (u : Stretch). Meets c.args.start.now.frame c.args.start.now.top.0 c.args.start.now.stretches.now 0 u.heads st after) (same_Some _ _ (sym is ∙ at)) ours

pub returns-in_err-meet_all-clause-stopped : goal.returns-in_err-meet_all-clause-stopped
returns-in_err-meet_all-clause-stopped c =
    let s = c.index-start-0.result in
    let is = stretch_is c.args.start.now.stretches.now 0 s c.requires.some c.index-start-0.is in
    let same : c.as_slice-heads.result.now ≡ s.heads = cc in
    let st = state_of c.args.floats.now c.args.met.now in
    at_err c.from_residual.result _ (λ t headed at m. c.in_err-meet_all.ensures.stopped headed
    (heads_to c.args.start.now.frame c.args.start.now.top.0 c.args.start.now.stretches.now c.none-blank.result.count s.heads c.as_slice-heads.result.now st headed c.none-blank.ensures.count same
    (subst (λ (u : Stretch). Meets c.args.start.now.frame c.args.start.now.top.0 c.args.start.now.stretches.now 0 u.heads st headed) (same_Some _ _ (sym at ∙ is)) m)))
