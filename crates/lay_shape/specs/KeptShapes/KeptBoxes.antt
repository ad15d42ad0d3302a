-- Contexts of a document (CSS 2.2, 9.4.1) before an edit and after it, where the edit leaves which contexts there are: one by one they are
-- of the same nodes. Of some the boxes stay. Where the cells of all of them depend on each other as before, a cell whose context keeps
-- its boxes is the one that it was.
use Rattle.std.specs.Prelude.{ℕ, ◌≡◌, ◌<◌, ◌↔◌, Bool, false, List, length}
use Rattle.lay_contexts.specs.Contexts.{Context, boxes_in}
use Rattle.lay_after_edits.specs.Contexts.Links.{AreRestyled, is_made}
use Rattle.lay_shape.specs.Keys.{node_of}
use Rattle.lay_shape.specs.Shapes.{shape_of}

-- contexts became later ones of the same nodes
pub record AreOfSameNodes (contexts later : List Context) : Type 0 where
  pub count : length later ≡ length contexts
  pub each : (i : ℕ) → i < length contexts → node_of later i ≡ node_of contexts i

-- of the first n contexts, those without a flag keep their boxes, and no others
pub record AreBoxFlagsTo (contexts later : List Context) (flags : List Bool) (n : ℕ) : Type 0 where
  pub count : length flags ≡ n
  pub each : (i : ℕ) → i < n → (is_made flags i ≡ false) ↔ (boxes_in later i ≡ boxes_in contexts i)

abbrev pub AreBoxFlags : (contexts later : List Context) → List Bool → Type 0
AreBoxFlags contexts later flags = AreBoxFlagsTo contexts later flags (length contexts)

-- contexts became later ones of the same nodes, and all but these, which have a flag, keep their boxes
pub record KeepBoxes (contexts later : List Context) (changed : List Bool) : Type 0 where
  pub nodes : AreOfSameNodes contexts later
  pub flags : length changed ≡ length contexts
  pub kept : (i : ℕ) → i < length contexts → is_made changed i ≡ false → boxes_in later i ≡ boxes_in contexts i

-- and their cells are the same, in the same order, with the same dependencies
pub record KeepCells (contexts later : List Context) (changed : List Bool) : Type 0 where
  pub boxes : KeepBoxes contexts later changed
  pub shape : shape_of later ≡ shape_of contexts

-- contexts do that keep all but the styles and texts of their boxes
abbrev pub RestyledKeepCells : Type 0
RestyledKeepCells = (contexts later : List Context) (made : List Bool) → AreRestyled contexts later made → KeepCells contexts later made
