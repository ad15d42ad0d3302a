-- A parent stands before its box.
use Rattle.std.proofs.Common.{ℕ, ◌<◌, List, length}
use Rattle.std.proofs.lemmas.List.{length-map}
use Rattle.lay_doc.specs.Tree.{IsTree}
use Rattle.lay_box_tree.specs.declared.box_tree.BoxNode.{BoxNode}
use Rattle.lay_box_tree.specs.BoxColumns.{box_parents}
use Rattle.lay_box_tree.specs.Containers.{box_parent}

pub parent_before : (boxes : List BoxNode) → IsTree (box_parents boxes) → (k : ℕ) → 0 < k → k < length boxes → box_parent boxes k < k
parent_before boxes tree k some within = tree.before k some (simp length-map within)
