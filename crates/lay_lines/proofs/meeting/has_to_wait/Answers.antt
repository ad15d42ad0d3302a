use Rattle.std.proofs.Common.{◌∙◌, Bool, true, false, IsTrue, IsFalse, rules, refl, subst}
use Rattle.std.proofs.lemmas.List.{nil_from_length}
use mathlib.Core.Bool.{not}
use Rattle.lay_floats.specs.declared.requests.FloatReq.{FloatReq}
use Rattle.lay_floats.specs.FloatPlace.{IsFloatPlace}
use Rattle.lay_lines.specs.Meeting.{below}
use Rattle.lay_lines.proofs.meeting.has_to_wait.Goals as goal

unnot : (b : Bool) → IsFalse (not b) → IsTrue b
unnot true f = refl
unnot false f = absurd cc

no_not : (b : Bool) → IsTrue (not b) → IsTrue b → ⊥
no_not true t u = absurd cc
no_not false t u = absurd cc

pub returns-clause-stands : goal.returns-clause-stands
returns-clause-stands c f x z place =
    let e = c.below.ensures in
    let there = c.place_of-place.result in
    let is = subst (λ (q : FloatReq). IsFloatPlace c.args.floats.now q there.x.0 there.y.0) e c.place_of-place.ensures in
    let one = c.one_float_place.ensures c.args.floats.now (below c.args.line.now.top.0 c.args.req.now) x z there.x.0 there.y.0 place is in
    record {
      place = place;
      beside = λ _. record {
        first = nil_from_length c.args.met.now.put_off.items (search rules);
        room = c.has_room.ensures.0 (search rules);
        at_top = one.1 ∙ c.are_same.ensures.0 (unnot c.are_same.result f);
      };
    }

pub returns-clause-waits : goal.returns-clause-waits
returns-clause-waits c t x z may =
    let e = c.below.ensures in
    let there = c.place_of-place.result in
    let is = subst (λ (q : FloatReq). IsFloatPlace c.args.floats.now q there.x.0 there.y.0) e c.place_of-place.ensures in
    let one = c.one_float_place.ensures c.args.floats.now (below c.args.line.now.top.0 c.args.req.now) there.x.0 there.y.0 x z is may.place in
    let beside = may.beside (search rules) in
    no_not c.are_same.result t (c.are_same.ensures.1 (one.1 ∙ beside.at_top))
