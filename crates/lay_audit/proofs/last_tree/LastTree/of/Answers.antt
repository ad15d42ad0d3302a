use Rattle.lay_audit.proofs.TreeLines.{tree_is_of_lines}
use Rattle.lay_audit.proofs.last_tree.LastTree.of.Goals as goal

pub invariant_of-result : goal.invariant_of-result
invariant_of-result c = tree_is_of_lines c.in_ok-text.text c.in_ok-tree.tree c.in_ok-text.ensures
