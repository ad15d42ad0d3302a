use Rattle.std.proofs.Common.{◌≡◌, length}
use Rattle.lay_cascade.specs.Styled.Told.{AreColumns}
use Rattle.lay_cascade.proofs.styled.columns.columns_of.Given as goal

abbrev pub invariant-loop-r : goal.invariant-loop-r
invariant-loop-r l = record {
  count : length l.columns.items ≡ l.r;
  told : AreColumns l.rules l.named.nodes.now l.named.names.now l.columns.items;
}
