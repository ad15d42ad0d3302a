use Rattle.std.proofs.Common.{◌≡◌, ◌∙◌, ◌+◌, ◌++◌, ◌∷◌, [], length, sym, ap, subst, arith, rules}
use Rattle.std.proofs.lemmas.Grind.{common_steps}
use Rattle.std.proofs.lemmas.List.{length-append}
use Rattle.lay_cascade.specs.Styled.Told.{AreTold}
use Rattle.lay_cascade.proofs.StyledLemmas.Told.{told_none, told_more}
use Rattle.lay_cascade.proofs.styled.columns.columns_for.Goals as goal

pub loop-s-init : goal.loop-s-init
loop-s-init c = record {
  count = ap length c.new-items.ensures.items;
  told = subst (AreTold c.args.named.nodes.now c.args.named.names.now c.args.rule.now.selectors) (sym c.new-items.ensures.items)
      (told_none c.args.named.nodes.now c.args.named.names.now c.args.rule.now.selectors);
}

pub loop-s-preserved : goal.loop-s-preserved
loop-s-preserved c =
    let nodes = c.args.named.nodes.now in
    let names = c.args.named.names.now in
    let old = c.loop-s.items.items in
    let column = c.in_ok-column.column in
    let pushed : c.push.new.self.items ≡ old ++ column ∷ [] = first_of (search rules, grind (arith, common_steps)) in
    record {
      count = ap length pushed ∙ length-append old (column ∷ []) ∙ ap (λ z. z + 1) c.loop-s.invariant.count;
      told = subst (AreTold nodes names c.args.rule.now.selectors) (sym pushed)
          (told_more nodes names c.args.rule.now.selectors old c.steps_at.result.now column c.loop-s.s c.loop-s.invariant.count c.steps_at.ensures c.loop-s.invariant.told c.in_ok-column.ensures);
    }

pub returns : goal.returns
returns c = c.loop-s.invariant.told
