use Rattle.std.proofs.Common.{◌≡◌, ◌∙◌, ◌<◌, length, ap, rules, arith}
use Rattle.std.proofs.lemmas.Grind.{common_steps}
use Rattle.lay_sheet.specs.Pieces.{block_to, behind_block}
use Rattle.lay_sheet.specs.Sheets.{IsRuleSet}
use Rattle.lay_sheet.proofs.Grammar.{one_rule_set, no_rule_set}
use Rattle.lay_sheet.proofs.sheet.rule_set.Goals as goal

pub returns-then-is_empty-clause-grammar : goal.returns-then-is_empty-clause-grammar
returns-then-is_empty-clause-grammar c =
    let none : length c.split_before.result.1.now ≡ 0 = first_of (search rules, grind (arith, common_steps)) in
    no_rule_set c.args.text.now c.requires.some c.requires.no_space c.requires.no_at_rule c.split_before.result.1.now c.split_before.ensures.rest none

pub returns-clause-grammar : goal.returns-clause-grammar
returns-clause-grammar c =
    let begun : 0 < length c.split_before.result.1.now = first_of (search rules, grind (arith, common_steps)) in
    let block = block_to 0 c.behind_first.result.now in
    let rule : IsRuleSet c.split_before.result.0.now block c.in_ok-rule.rule = first_of (search rules, grind (arith, common_steps)) in
    let rest : c.in_ok-rule.behind.now ≡ behind_block 0 c.behind_first.result.now = first_of (search rules, grind (arith, common_steps)) in
    one_rule_set c.args.text.now c.requires.some c.requires.no_space c.requires.no_at_rule c.split_before.result.0.now c.split_before.result.1.now block c.in_ok-rule.behind.now
    c.split_before.ensures.before c.split_before.ensures.rest begun (ap (block_to 0) c.behind_first.ensures) (rest ∙ ap (behind_block 0) c.behind_first.ensures) c.in_ok-rule.rule rule
