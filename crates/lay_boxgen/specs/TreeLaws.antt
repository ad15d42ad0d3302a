-- What is listed of a context's part is a tree of boxes.
use Rattle.std.specs.Prelude.{ℕ, List}
use Rattle.lay_style.specs.declared.style.Style.{Style}
use Rattle.lay_doc.specs.declared.node.Node.{Node}
use Rattle.lay_doc.specs.Tree.{IsTree}
use Rattle.lay_boxgen.specs.Boxes.{Tree}
use Rattle.lay_box_tree.specs.BoxColumns.{box_parents, HasInnerLeaves}
use Rattle.lay_boxgen.specs.Listing.{listed_part}
use Rattle.lay_boxgen.specs.Parts.{part}

abbrev pub BoxesAreATree : Type 0
BoxesAreATree = (nodes : List Node) (styles : List Style) (trees : List Tree) → IsTree (box_parents (listed_part nodes styles trees))

abbrev pub InnerBoxesAreLeaves : Type 0
InnerBoxesAreLeaves = (nodes : List Node) (styles : List Style) (k : ℕ) → HasInnerLeaves (listed_part nodes styles (part nodes styles k))
