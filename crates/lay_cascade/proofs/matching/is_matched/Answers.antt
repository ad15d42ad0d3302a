use Rattle.std.proofs.Common.{◌≡◌, ◌∙◌, ◌<◌, ◌+◌, ◌-◌, Some, length, sym, ap, subst, rules, arith}
use Rattle.std.specs.Prelude.{slice_index_or, ◌==◌}
use Rattle.std.proofs.lemmas.Grind.{common_steps}
use Rattle.lay_cascade.specs.Rising.{AreWithin, AreBefore, with_fitting}
use Rattle.lay_cascade.proofs.Leading.{IsLed, led_last, led_more, led_nowhere, led_first, first_step, some_left, none_left}
use Rattle.lay_cascade.proofs.matching.is_matched.Goals as goal

pub loop-done-init : goal.loop-done-init
loop-done-init c =
    let nodes = c.args.named.nodes.now in
    let names = c.args.named.names.now in
    let steps = c.args.steps.now in
    let last = c.in-Some.last in
    let count : length steps ≡ last + 1 = first_of (search rules, grind (arith, common_steps)) in
    let pushed : c.push_fitting.new.found.items ≡ with_fitting names c.new-places.result.items (Some c.args.place) c.step_at.result.now.simple = first_of (search rules, grind (arith, common_steps)) in
    let found = pushed ∙ ap (λ z. with_fitting names z (Some c.args.place) c.step_at.result.now.simple) c.new-places.ensures.items in
    let same : last ≡ last - 0 = omega arith in
    subst (λ z. IsLed nodes names steps c.args.place z c.push_fitting.new.found.items) same
    (led_last nodes names steps c.args.place last c.step_at.result.now c.push_fitting.new.found.items count c.step_at.ensures c.requires.place found)

pub all_before-requires-clause-within : goal.all_before-requires-clause-within
all_before-requires-clause-within c = subst (AreWithin (length c.args.named.nodes.now)) (sym c.as_slice.ensures.value) c.loop-done.invariant.within

pub loop-done-preserved : goal.loop-done-preserved
loop-done-preserved c =
    let nodes = c.args.named.nodes.now in
    let names = c.args.named.names.now in
    let steps = c.args.steps.now in
    let last = c.in-Some.last in
    let done = c.loop-done.done in
    let step = c.step_at-in-loop-done.result.now in
    let before = c.step_at-in-loop-done-2.result.now in
    let count : length steps ≡ last + 1 = first_of (search rules, grind (arith, common_steps)) in
    let here : done < last = first_of (search rules, grind (arith, common_steps)) in
    let next : last - done ≡ (last - (done + 1)) + 1 = omega (arith, here) in
    let within : last - done < length steps = omega (arith, count) in
    let back : last - done - 1 ≡ last - (done + 1) = omega (arith, here) in
    let is : step ≡ slice_index_or steps (last - done) step = c.step_at-in-loop-done.ensures in
    let was : before ≡ slice_index_or steps (last - done - 1) before = c.step_at-in-loop-done-2.ensures in
    let more : AreBefore nodes names c.as_slice.result.now step.joint before.simple c.in_ok-next.next.items = first_of (search rules, grind (arith, common_steps)) in
    led_more nodes names steps c.args.place (last - done) (last - (done + 1)) step before c.loop-done.places.items c.in_ok-next.next.items next within is
    (subst (λ z. before ≡ slice_index_or steps z before) back was) c.loop-done.invariant
    (subst (λ z. AreBefore nodes names z step.joint before.simple c.in_ok-next.next.items) c.as_slice.ensures.value more)

pub returns : goal.returns
returns c =
    let nodes = c.args.named.nodes.now in
    let names = c.args.named.names.now in
    let steps = c.args.steps.now in
    let last = c.in-Some.last in
    let places = c.loop-done.places.items in
    let count : length steps ≡ last + 1 = first_of (search rules, grind (arith, common_steps)) in
    let end : last - c.loop-done.done ≡ 0 = omega (arith, c.loop-done-test.false) in
    let led = subst (λ z. IsLed nodes names steps c.args.place z places) end c.loop-done.invariant in
    let none : c.is_empty-2.result ≡ (length places == 0) = first_of (search rules, grind (arith, common_steps)) in
    let some : 0 < length steps = omega (arith, count) in
    let first = first_step steps some in
    record {
      yes = λ e. led_first nodes names steps c.args.place first.0 places some first.1 (some_left c.is_empty-2.result (length places) none e) led;
      no = λ e w. led_nowhere nodes names steps c.args.place 0 places (none_left c.is_empty-2.result (length places) none e) led w;
    }
