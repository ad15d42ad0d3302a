use Rattle.std.proofs.Common.{rules}
use Rattle.lay_core.proofs.Trees.{there_of}
use Rattle.lay_core.proofs.core_state.Core.tree.Goals as goal

pub returns-clause-there : goal.returns-clause-there
returns-clause-there c = rw (← c.self.view_is) (there_of (λ t. t.now.value) c.tree_at.result c.args.version c.self.inside.history.items c.self.inside.trees.items (search rules) c.self.invariant.0.is_core.has_trees)
