use Rattle.std.proofs.Common.{◌≡◌, ◌∙◌, ◌++◌, ◌∷◌, [], refl, ap, sym, subst}
use Rattle.lay_floats.specs.declared.requests.FloatReq.{FloatReq}
use Rattle.lay_floats.specs.FloatPlace.{IsFloatPlace, placed_at}
use Rattle.lay_floats.specs.Fits.{BoxFits}
use Rattle.lay_lines.proofs.ContentLemmas.Outcomes.{at_err}
use Rattle.lay_lines.specs.Meeting.{State, state_of, below, stood}
use Rattle.lay_lines.specs.Meeting.MeetsFloat.{stands, waits}
use Rattle.lay_lines.proofs.Chains.{front_trans, all_front}
use Rattle.lay_lines.proofs.Steps.{same_states, one_met}
use Rattle.lay_lines.proofs.Fronts.{met_front}
use Rattle.lay_lines.proofs.meeting.meet.Goals as goal

pub returns-then-has_to_wait-clause-meets : goal.returns-then-has_to_wait-clause-meets
returns-then-has_to_wait-clause-meets c =
    waits (c.has_to_wait.ensures.seen c.if-has_to_wait.true) (c.has_to_wait.ensures.waits c.if-has_to_wait.true) (same_states _ _ _ _ _ _ refl refl c.in_ok-push.ensures.items)

pub place-requires-clause-place : goal.place-requires-clause-place
place-requires-clause-place c x y p =
    let r = below c.args.line.now.top.0 c.args.float.now.req in
    let e : c.below.result ≡ r = c.below.ensures in
    subst (λ (q : FloatReq). BoxFits (placed_at q x y)) (sym e) (c.requires.float.place x y (subst (λ (q : FloatReq). IsFloatPlace c.args.floats.now q x y) e p))

pub returns-clause-meets : goal.returns-clause-meets
returns-clause-meets c =
    let place = c.in_ok-place.place in
    let e = c.below.ensures in
    let is = subst (λ (q : FloatReq). IsFloatPlace c.args.floats.now q place.x.0 place.y.0) e c.in_ok-place.ensures.place in
    let placed = c.in_ok-place.ensures.placed ∙ ap (λ (q : FloatReq). c.args.floats.now ++ placed_at q place.x.0 place.y.0 ∷ []) e in
    stands place.x.0 place.y.0 (c.has_to_wait.ensures.stands c.if-has_to_wait.false place.x.0 place.y.0 is) (same_states _ _ _ _ _ _ placed c.in_ok-push-2.ensures.items refl)

pub returns-in_err-push-clause-stopped : goal.returns-in_err-push-clause-stopped
returns-in_err-push-clause-stopped c = at_err c.from_residual.result _ (λ after m. met_front _ _ _ _ _ _ after m)

pub returns-in_err-place-clause-stopped : goal.returns-in_err-place-clause-stopped
returns-in_err-place-clause-stopped c =
    at_err c.from_residual-in_err-place.result _ (λ after m. front_trans _ c.args.floats.now _ (all_front _ _ c.in_err-place.ensures.refused) (met_front _ _ _ _ _ _ after m))

pub returns-in_err-push-2-clause-stopped : goal.returns-in_err-push-2-clause-stopped
returns-in_err-push-2-clause-stopped c =
    let st = state_of c.args.floats.now c.args.met.now in
    let float = c.args.float.now in
    let place = c.in_ok-place.place in
    let e = c.below.ensures in
    let is = subst (λ (q : FloatReq). IsFloatPlace c.args.floats.now q place.x.0 place.y.0) e c.in_ok-place.ensures.place in
    let placed = c.in_ok-place.ensures.placed ∙ ap (λ (q : FloatReq). c.args.floats.now ++ placed_at q place.x.0 place.y.0 ∷ []) e in
    let ours = stands place.x.0 place.y.0 (c.has_to_wait.ensures.stands c.if-has_to_wait.false place.x.0 place.y.0 is) refl in
    at_err c.from_residual-in_err-push-2.result _ (λ after m.
    (let same = one_met c.one_float_place.ensures c.args.line.now.frame c.args.line.now.top.0 c.args.line.now.stretches.now c.args.reach.now.count st float (stood st float place.x.0 place.y.0) after ours m in
    all_front _ _ (placed ∙ ap (λ (s : State). s.floats) same)))
