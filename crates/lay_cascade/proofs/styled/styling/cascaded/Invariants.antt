use Rattle.std.proofs.Common.{◌≡◌}
use Rattle.lay_cascade.specs.Styled.Taken.{IsCascadedTo}
use Rattle.lay_cascade.proofs.styled.styling.cascaded.Given as goal

abbrev pub invariant-loop-k : goal.invariant-loop-k
invariant-loop-k l = record {
  width : l.new.width ≡ l.doc.width;
  height : l.new.height ≡ l.doc.height;
  nodes : IsCascadedTo l.sheet l.doc.nodes l.names l.k l.new.nodes;
}
