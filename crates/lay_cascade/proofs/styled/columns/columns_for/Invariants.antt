use Rattle.std.proofs.Common.{◌≡◌, length}
use Rattle.lay_cascade.specs.Styled.Told.{AreTold}
use Rattle.lay_cascade.proofs.styled.columns.columns_for.Given as goal

abbrev pub invariant-loop-s : goal.invariant-loop-s
invariant-loop-s l = record {
  count : length l.items.items ≡ l.s;
  told : AreTold l.named.nodes.now l.named.names.now l.rule.selectors l.items.items;
}
