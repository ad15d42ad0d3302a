-- The boxes of a formatting context are moved in a way, and in one alone.
use Rattle.std.specs.Prelude.{◌≡◌, List}
use Rattle.lay_box_tree.specs.declared.box_tree.BoxNode.{BoxNode}
use Rattle.lay_sizes.specs.declared.sizing.BoxSizes.{BoxSizes}
use Rattle.lay_box_tree.specs.ContextBoxes.{AreContextBoxes}
use Rattle.lay_abspos.specs.declared.relative.offset.Offset.{Offset}
use Rattle.lay_abspos.specs.Relative.Moves.{HasMoves}

abbrev pub OneColumnOfMoves : Type 0
OneColumnOfMoves = (boxes : List BoxNode) (sizes : List BoxSizes) (m n : List Offset) → AreContextBoxes boxes
    → HasMoves boxes sizes m → HasMoves boxes sizes n → m ≡ n

abbrev pub SomeColumnOfMoves : Type 0
SomeColumnOfMoves = (boxes : List BoxNode) (sizes : List BoxSizes) → AreContextBoxes boxes
    → (moves : List Offset) × HasMoves boxes sizes moves
