use Rattle.std.proofs.Common.{◌≡◌, ◌∙◌, ◌+◌, ◌++◌, ◌∷◌, [], length, sym, ap, subst, arith, rules}
use Rattle.std.proofs.lemmas.Grind.{common_steps}
use Rattle.std.proofs.lemmas.List.{length-append}
use Rattle.lay_cascade.specs.Styled.Told.{AreColumns}
use Rattle.lay_cascade.proofs.StyledLemmas.Told.{columns_none, columns_more}
use Rattle.lay_cascade.proofs.styled.columns.columns_of.Goals as goal

pub loop-r-init : goal.loop-r-init
loop-r-init c = record {
  count = ap length c.new-columns.ensures.items;
  told = subst (AreColumns c.args.rules.now c.args.named.nodes.now c.args.named.names.now) (sym c.new-columns.ensures.items)
      (columns_none c.args.named.nodes.now c.args.named.names.now c.args.rules.now);
}

pub loop-r-preserved : goal.loop-r-preserved
loop-r-preserved c =
    let nodes = c.args.named.nodes.now in
    let names = c.args.named.names.now in
    let old = c.loop-r.columns.items in
    let list = c.in_ok-list.list in
    let pushed : c.push.new.self.items ≡ old ++ list ∷ [] = first_of (search rules, grind (arith, common_steps)) in
    record {
      count = ap length pushed ∙ length-append old (list ∷ []) ∙ ap (λ z. z + 1) c.loop-r.invariant.count;
      told = subst (AreColumns c.args.rules.now nodes names) (sym pushed)
          (columns_more nodes names c.args.rules.now old c.rule_at.result.now list c.loop-r.r c.loop-r.invariant.count c.rule_at.ensures c.loop-r.invariant.told c.in_ok-list.ensures);
    }

pub returns : goal.returns
returns c = c.loop-r.invariant.told
