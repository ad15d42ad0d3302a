use Rattle.std.proofs.Common.{◌∙◌, ◌+◌, ◌-◌, ◌<◌, ◌≤◌, ℕ, List, false, length, sym, ap, subst, arith, rules}
use Rattle.std.specs.List.{list_any}
use Rattle.std.proofs.lemmas.Grind.{common_steps}
use Rattle.lay_sheet.specs.declared.selector.Step.{Step}
use Rattle.lay_cascade.specs.Columns.{IsColumn, ComeTo}
use Rattle.lay_cascade.proofs.Columns.{first_come, none_come_at, all_come}
use Rattle.lay_cascade.proofs.Reading.{window_itself}
use Rattle.lay_cascade.proofs.forward.matched_nodes.Goals as goal

pub loop-done-init : goal.loop-done-init
loop-done-init c = record {
  some = omega arith;
  come = first_come c.args.named.nodes.now c.args.named.names.now c.args.steps.now c.step_at.result.now c.in_ok-ends.ends.items c.requires.some c.step_at.ensures c.in_ok-ends.ensures;
}

pub returns-then-not-is_any_set : goal.returns-then-not-is_any_set
returns-then-not-is_any_set c =
    let here : c.loop-done.done < length c.args.steps.now = first_of (search rules, grind (arith, common_steps)) in
    let within : c.loop-done.done ≤ length c.args.steps.now = omega (arith, here) in
    let none = ap (list_any (λ told. told)) (sym c.as_slice.ensures.value) ∙ sym c.is_any_set.ensures ∙ c.if-not-is_any_set.true in
    none_come_at c.args.named.nodes.now c.args.named.names.now c.args.steps.now c.loop-done.done c.loop-done.ends.items c.loop-done.invariant.some within c.requires.named.count
    c.loop-done.invariant.come none

pub next_ends-requires-clause-window : goal.next_ends-requires-clause-window
next_ends-requires-clause-window c = window_itself c.args.steps.now c.loop-done.done c.in_ok-window.window c.in_ok-window.ensures

pub next_ends-requires-clause-behind : goal.next_ends-requires-clause-behind
next_ends-requires-clause-behind c = subst (λ (z : ℕ). 0 < z) (sym c.in_ok-window.ensures.from_is) c.loop-done.invariant.some

pub next_ends-requires-clause-come : goal.next_ends-requires-clause-come
next_ends-requires-clause-come c =
    let nodes = c.args.named.nodes.now in
    let names = c.args.named.names.now in
    let ends = c.loop-done.ends.items in
    let window = c.in_ok-window.window in
    rw c.as_slice-in-loop-done.ensures.value
    (subst (λ (z : List Step). IsColumn (length nodes) (ComeTo nodes names z window.from) ends) (sym c.in_ok-window.ensures.steps_are)
    (subst (λ (z : ℕ). IsColumn (length nodes) (ComeTo nodes names c.args.steps.now z) ends) (sym c.in_ok-window.ensures.from_is) c.loop-done.invariant.come))

pub loop-done-preserved : goal.loop-done-preserved
loop-done-preserved c =
    let nodes = c.args.named.nodes.now in
    let names = c.args.named.names.now in
    let window = c.in_ok-window.window in
    let next = c.in_ok-next.next.items in
    record {
      some = omega (arith, c.loop-done.invariant.some);
      come = subst (λ (z : ℕ). IsColumn (length nodes) (ComeTo nodes names c.args.steps.now (z + window.count)) next) c.in_ok-window.ensures.from_is
          (subst (λ (z : List Step). IsColumn (length nodes) (ComeTo nodes names z (window.from + window.count)) next) c.in_ok-window.ensures.steps_are c.in_ok-next.ensures);
    }

pub returns : goal.returns
returns c =
    let all : length c.args.steps.now ≤ c.loop-done.done = first_of (omega (arith, c.loop-done-test.false), search rules, grind (arith, common_steps)) in
    all_come c.args.named.nodes.now c.args.named.names.now c.args.steps.now c.loop-done.done c.loop-done.ends.items all c.loop-done.invariant.come
