use Rattle.std.proofs.Common.{◌≡◌, ◌<◌, ◌++◌, ◌∷◌, [], Some, None, length, subst, rules, arith}
use Rattle.std.proofs.lemmas.Grind.{common_steps}
use Rattle.lay_sheet.specs.SelectorTexts.{AreSteps, simple_of, behind_joint}
use Rattle.lay_sheet.proofs.Grammar.{no_steps, step_ends, next_step, step_at}
use Rattle.lay_sheet.proofs.selector_text.steps_of.Goals as goal

pub returns-in_default : goal.returns-in_default
returns-in_default c =
    let none : simple_of c.loop-steps.joint c.loop-steps.rest.now ≡ None = first_of (search rules, grind (arith, common_steps)) in
    no_steps c.args.text.now c.loop-steps.steps.items c.loop-steps.joint c.loop-steps.rest.now c.loop-steps.invariant none

pub returns-then-is_empty : goal.returns-then-is_empty
returns-then-is_empty c =
    let some : simple_of c.loop-steps.joint c.loop-steps.rest.now ≡ Some c.in-Some.simple = first_of (search rules, grind (arith, common_steps)) in
    let none : length c.behind_simple-behind.result.now ≡ 0 = first_of (search rules, grind (arith, common_steps)) in
    let pushed : c.push.new.self.items ≡ c.loop-steps.steps.items ++ step_at c.loop-steps.joint c.in-Some.simple ∷ [] = first_of (search rules, grind (arith, common_steps)) in
    step_ends c.args.text.now c.loop-steps.steps.items c.loop-steps.joint c.loop-steps.rest.now c.loop-steps.invariant c.in-Some.simple c.push.new.self.items c.behind_simple-behind.result.now some c.behind_simple-behind.ensures.rest none pushed

pub loop-steps-preserved : goal.loop-steps-preserved
loop-steps-preserved c =
    let some : simple_of c.loop-steps.joint c.loop-steps.rest.now ≡ Some c.in-Some.simple = first_of (search rules, grind (arith, common_steps)) in
    let goes_on : 0 < length c.behind_simple-behind.result.now = first_of (search rules, grind (arith, common_steps)) in
    let pushed : c.push.new.self.items ≡ c.loop-steps.steps.items ++ step_at c.loop-steps.joint c.in-Some.simple ∷ [] = first_of (search rules, grind (arith, common_steps)) in
    let next = next_step c.args.text.now c.loop-steps.steps.items c.loop-steps.joint c.loop-steps.rest.now c.loop-steps.invariant c.in-Some.simple c.push.new.self.items c.behind_simple-behind.result.now some c.behind_simple-behind.ensures.rest goes_on pushed in
    λ found p. next found (subst (λ z. AreSteps z (behind_joint c.behind_simple-behind.result.now) found) c.joint_of-joint.ensures (subst (λ z. AreSteps c.joint_of-joint.result z found) c.behind_joint-rest.ensures.rest p))
