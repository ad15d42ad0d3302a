use Rattle.std.proofs.Common.{◌≡◌, ◌<◌, ◌++◌, ◌∷◌, [], Some, None, length, subst, rules, arith}
use Rattle.std.proofs.lemmas.Grind.{common_steps}
use Rattle.lay_sheet.specs.SelectorTexts.{AreSelectors, IsSelectorText}
use Rattle.lay_sheet.proofs.Grammar.{no_selectors, selector_ends, next_selector}
use Rattle.lay_sheet.proofs.selector_text.selectors_of.Goals as goal

pub returns-in_default : goal.returns-in_default
returns-in_default c =
    let none : IsSelectorText c.split_before.result.0.now None = first_of (search rules, grind (arith, common_steps)) in
    no_selectors c.args.prelude.now c.loop-selectors.selectors.items c.loop-selectors.rest.now c.loop-selectors.invariant c.split_before.result.0.now c.split_before.ensures.before none

pub returns-then-is_empty : goal.returns-then-is_empty
returns-then-is_empty c =
    let some : IsSelectorText c.split_before.result.0.now (Some c.in-Some.selector) = first_of (search rules, grind (arith, common_steps)) in
    let none : length c.split_before.result.1.now ≡ 0 = first_of (search rules, grind (arith, common_steps)) in
    let pushed : c.push.new.self.items ≡ c.loop-selectors.selectors.items ++ c.in-Some.selector ∷ [] = first_of (search rules, grind (arith, common_steps)) in
    selector_ends c.args.prelude.now c.loop-selectors.selectors.items c.loop-selectors.rest.now c.loop-selectors.invariant c.split_before.result.0.now c.split_before.result.1.now c.in-Some.selector c.push.new.self.items
    c.split_before.ensures.before c.split_before.ensures.rest some none pushed

pub loop-selectors-preserved : goal.loop-selectors-preserved
loop-selectors-preserved c =
    let some : IsSelectorText c.split_before.result.0.now (Some c.in-Some.selector) = first_of (search rules, grind (arith, common_steps)) in
    let goes_on : 0 < length c.split_before.result.1.now = first_of (search rules, grind (arith, common_steps)) in
    let pushed : c.push.new.self.items ≡ c.loop-selectors.selectors.items ++ c.in-Some.selector ∷ [] = first_of (search rules, grind (arith, common_steps)) in
    let next = next_selector c.args.prelude.now c.loop-selectors.selectors.items c.loop-selectors.rest.now c.loop-selectors.invariant c.split_before.result.0.now c.split_before.result.1.now c.in-Some.selector c.push.new.self.items
    c.split_before.ensures.before c.split_before.ensures.rest some goes_on pushed in
    λ found p. next found (subst (λ z. AreSelectors z found) c.behind_first-rest.ensures p)
