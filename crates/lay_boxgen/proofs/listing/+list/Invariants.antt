use Rattle.std.proofs.Common.{◌≡◌, ◌++◌, drop, length}
use Rattle.lay_boxgen.specs.Boxes.{trees_of}
use Rattle.lay_boxgen.specs.Listing.{all_listed}
use Rattle.lay_boxgen.specs.Parts.{all_put, nothing}
use Rattle.lay_boxgen.proofs.listing.+list.Given as goal

abbrev pub invariant-list_all-loop-tree : goal.invariant-list_all-loop-tree
invariant-list_all-loop-tree l =
    l.out.items ++ all_listed l.sources.nodes.now l.sources.styles.now l.parent.facts l.parent.place (length l.out.items) (all_put nothing (trees_of (drop l.tree-index l.trees)))
    ≡ l.fn.out.items ++ all_listed l.sources.nodes.now l.sources.styles.now l.parent.facts l.parent.place (length l.fn.out.items) (all_put nothing (trees_of l.trees))
