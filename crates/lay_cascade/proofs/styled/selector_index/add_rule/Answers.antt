use Rattle.std.proofs.Common.{◌≤◌, length, ap, arith, rules}
use Rattle.lay_cascade.proofs.StyledLemmas.Looking.{indexed_next, indexed_rule}
use Rattle.lay_cascade.proofs.styled.selector_index.add_rule.Goals as goal

pub loop-s-preserved : goal.loop-s-preserved
loop-s-preserved c =
    let added = c.in_ok-add.ensures {u = tt} in
    indexed_next c.args.rules.now c.loop-s.index.by_name.items c.add.new.index.by_name.items c.loop-s.index.rest c.add.new.index.rest c.args.r c.loop-s.s c.rule_at-rule.result.now c.steps_at.result.now
    c.rule_at-rule.ensures c.steps_at.ensures added.by_name added.rest c.loop-s.invariant

pub returns : goal.returns
returns c =
    let count = ap length c.selectors-s-end.ensures in
    let all : length c.rule_at-rule.result.now.selectors ≤ c.loop-s.s = omega (arith, c.loop-s-test.false, c.loop-s.auto.s-end, count) in
    indexed_rule c.args.rules.now c.loop-s.index.by_name.items c.loop-s.index.rest c.args.r c.loop-s.s c.rule_at-rule.result.now c.rule_at-rule.ensures all c.loop-s.invariant
