use Rattle.std.proofs.Common.{rules, ◌≡◌, ◌∙◌, option_map}
use Rattle.std.specs.List.{between}
use Rattle.lay_boxgen.specs.CutTrees.{as_leaf}
use Rattle.lay_boxgen.specs.NodeTrees.{node_trees, first_tree}
use Rattle.lay_boxgen.specs.Parts.{own_tree}
use Rattle.lay_boxgen.proofs.SplitNodes.{cut-tree-between}
use Rattle.lay_boxgen.proofs.node_trees.context_tree.Goals as goal

pub returns : goal.returns
returns c =
    let nodes = c.args.nodes.now in
    let styles = c.args.styles.now in
    let k = c.args.place in
    let end = c.subtree_end-end.result in
    let e = c.subtree_end-end.ensures in
    let grown : c.own_tree_of.result ≡ option_map own_tree (first_tree (node_trees as_leaf k (between k end nodes) (between k end styles))) = search rules in
    grown ∙ cut-tree-between nodes styles k end e.after e.within c.requires.styles e.next
