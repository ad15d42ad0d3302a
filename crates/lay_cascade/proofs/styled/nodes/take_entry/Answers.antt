use Rattle.std.proofs.Common.{◌∙◌, ◌≤◌, ◌++◌, ◌∷◌, [], length, sym, ap, subst, arith, rules}
use Rattle.std.proofs.lemmas.Grind.{common_steps}
use Rattle.lay_cascade.specs.Matching.{IsMatched, Says}
use Rattle.lay_cascade.specs.Specificity.{specificity_of}
use Rattle.lay_cascade.specs.Styled.Winners.{with_decls}
use Rattle.lay_cascade.specs.Styled.Told.{column_at}
use Rattle.lay_cascade.specs.Styled.Seen.{AreWinnersOf}
use Rattle.lay_cascade.proofs.StyledLemmas.Taking.{passed_rule, passed_selector, passed_match, taken, length_decls}
use Rattle.lay_cascade.proofs.StyledLemmas.Told.{told_says}
use Rattle.lay_cascade.proofs.styled.nodes.take_entry.Goals as goal

pub matches_at-requires-clause-told : goal.matches_at-requires-clause-told
matches_at-requires-clause-told c = λ b e.
    told_says c.args.cascade.named.nodes.now c.args.cascade.named.names.now c.steps_at-steps.result.now (column_at c.args.cascade.columns.now c.args.entry) c.args.k b
    (c.requires.told c.args.entry.rule c.rule_at-rule.result.now c.rule_at-rule.ensures c.args.entry.selector c.steps_at-steps.result.now c.steps_at-steps.ensures)
    c.requires.place (sym c.told-told.ensures ∙ e)

pub returns-then-entry-cascade-clause-winners : goal.returns-then-entry-cascade-clause-winners
returns-then-entry-cascade-clause-winners c = λ seen was.
    let past : length c.args.cascade.rules.now ≤ c.args.entry.rule = omega (arith, c.if-entry-cascade.true) in
    passed_rule c.args.cascade.rules.now c.args.cascade.named.nodes.now c.args.cascade.named.names.now c.args.k seen c.args.entry c.args.winners.now.items past was

pub returns-then-entry-selectors-clause-winners : goal.returns-then-entry-selectors-clause-winners
returns-then-entry-selectors-clause-winners c = λ seen was.
    let count = ap length c.selectors.ensures in
    let past : length c.rule_at-rule.result.now.selectors ≤ c.args.entry.selector = omega (arith, c.if-entry-selectors.true, count) in
    passed_selector c.args.cascade.rules.now c.args.cascade.named.nodes.now c.args.cascade.named.names.now c.args.k seen c.args.entry c.args.winners.now.items
    c.rule_at-rule.result.now c.rule_at-rule.ensures past was

pub returns-else-branch-clause-winners : goal.returns-else-branch-clause-winners
returns-else-branch-clause-winners c = λ seen was.
    let says : Says c.in_ok-matches_at.field-0 (IsMatched c.args.cascade.named.nodes.now c.args.cascade.named.names.now c.steps_at-steps.result.now c.args.k) = first_of (search rules, grind (arith, common_steps)) in
    passed_match c.args.cascade.rules.now c.args.cascade.named.nodes.now c.args.cascade.named.names.now c.args.k seen c.args.entry c.args.winners.now.items
    c.rule_at-rule.result.now c.steps_at-steps.result.now c.rule_at-rule.ensures c.steps_at-steps.ensures (says.no c.if-branch.false) was

pub returns-then-branch-clause-winners : goal.returns-then-branch-clause-winners
returns-then-branch-clause-winners c = λ seen was.
    let nodes = c.args.cascade.named.nodes.now in
    let names = c.args.cascade.named.names.now in
    let rule = c.rule_at-rule.result.now in
    let selector = c.steps_at-steps.result.now in
    let entry = c.args.entry in
    let old = c.args.winners.now.items in
    let says : Says c.in_ok-matches_at.field-0 (IsMatched nodes names selector c.args.k) = first_of (search rules, grind (arith, common_steps)) in
    let made = c.take_all.ensures ∙ ap (λ z. with_decls z entry.rule 0 c.decls.result.now old) (c.specificity_at.ensures selector c.steps_at-steps.ensures)
    ∙ ap (λ z. with_decls (specificity_of selector) entry.rule 0 z old) c.decls.ensures in
    subst (λ z. AreWinnersOf c.args.cascade.rules.now nodes names c.args.k (seen ++ entry ∷ []) z) (sym made)
    (taken c.args.cascade.rules.now nodes names c.args.k seen entry old rule selector c.rule_at-rule.ensures c.steps_at-steps.ensures c.requires.no_text (says.yes c.if-branch.true) was)

pub returns-then-branch-clause-count : goal.returns-then-branch-clause-count
returns-then-branch-clause-count c =
    ap length c.take_all.ensures ∙ length_decls c.specificity_at.result c.args.entry.rule 0 c.decls.result.now c.args.winners.now.items ∙ c.requires.count
