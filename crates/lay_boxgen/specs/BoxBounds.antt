-- How many boxes a document has. A node has a box, and an anchor where it is out of flow; anonymous boxes round these
-- come from the rules one after the other, at most a few for each; and each child of an inline box breaks the inline
-- boxes round it once at most (9.2.1.1), of which there are no more than the document is deep.
use Rattle.std.specs.Prelude.{ℕ, ◌+◌, ◌*◌, ◌≤◌, List, length}
use Rattle.lay_style.specs.declared.style.Style.{Style}
use Rattle.lay_doc.specs.Document.{Document, IsDocument}
use Rattle.lay_units.specs.Limits.{most_depth, most_nodes}
use Rattle.lay_boxgen.specs.Listing.{boxes_of}

-- the most boxes for each node
abbrev pub boxes_for_each : ℕ
boxes_for_each = 72 + 4 * most_depth

-- the most boxes of a document, and so of a context
abbrev pub most_boxes : ℕ
most_boxes = boxes_for_each * most_nodes

abbrev pub BoxesAreFew : Type 0
BoxesAreFew = (d : Document) (styles : List Style) (id : ℕ) → IsDocument d
    → (length (boxes_of d styles id) ≤ boxes_for_each * length d.nodes) × (length (boxes_of d styles id) ≤ most_boxes)
