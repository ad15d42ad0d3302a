use Rattle.lay_doc.proofs.Subtrees.{has_subtree_lem}
use Rattle.lay_doc.proofs.laws.has_subtree.Goals as goal

pub returns : goal.returns
returns c = has_subtree_lem
