use Rattle.std.proofs.Common.{◌≡◌, drop}
use Rattle.lay_history.specs.Trees.{tree_at}
use Rattle.lay_history.proofs.published_tree.tree_at.Given as goal

abbrev pub invariant-loop-published : goal.invariant-loop-published
invariant-loop-published l = tree_at l.version l.trees ≡ tree_at l.version (drop l.published-index l.trees)
