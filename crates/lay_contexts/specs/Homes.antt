-- Anonymous tables and cells in a context. A cell establishes a block formatting context (CSS 2.2, 9.4.1), and so does the
-- wrapper of a table (17.4). Those of elements are contexts; the boxes of an anonymous one (17.2.1) stand among those of the
-- context that it is in. It is a root there, as the context's own box is: a box belongs to the nearest root above it, its home.
--
-- For example, a context has a paragraph, and beside it a row. Round the row is an anonymous wrapper with a table box, and the
-- text in the row is in an anonymous cell. The roots are the own box, the wrapper and the cell: at home in the first are the
-- paragraph with its lines and the wrapper, in the second the table box, the row and the cell, and in the third the text.
use Rattle.std.specs.Prelude.{ℕ, zero, suc, ◌≡◌, ◌<◌, ◌&&◌, Bool, true, false, not, List, length, map, slice_index, slice_index_or}
use Rattle.lay_box_tree.specs.Containers.{box_parent}
use Rattle.lay_box_tree.specs.declared.box_tree.BoxKind.{BoxKind}
use Rattle.lay_box_tree.specs.declared.box_tree.BoxKind.TheVariants.{Wrapper, InlineWrapper, Cell}
use Rattle.lay_box_tree.specs.declared.box_tree.BoxNode.{BoxNode}

-- the wrapper of a table, or a cell
abbrev pub is_wrapper_or_cell : BoxKind → Bool
is_wrapper_or_cell Wrapper = true
is_wrapper_or_cell InlineWrapper = true
is_wrapper_or_cell (Cell colspan rowspan) = true
is_wrapper_or_cell _ = false

-- an anonymous box that establishes a formatting context; the boxes in that of an inner context stand elsewhere
abbrev pub is_anonymous_root : BoxNode → Bool
is_anonymous_root b = b.anonymous && not b.inner && is_wrapper_or_cell b.kind

abbrev pub box_roots : List BoxNode → List Bool
box_roots boxes = map is_anonymous_root boxes

-- the box at k is a root
abbrev pub is_root : List BoxNode → ℕ → Bool
is_root boxes zero = true
is_root boxes (suc k) = slice_index_or (box_roots boxes) (suc k) false

-- the box at h is the home of the box at k; the own box counts as its own
pub data IsHome (boxes : List BoxNode) : ℕ → ℕ → Type 0 where
  own : IsHome boxes 0 0
  parent : (k : ℕ) → 0 < k → is_root boxes (box_parent boxes k) ≡ true → IsHome boxes k (box_parent boxes k)
  further : (k h : ℕ) → 0 < k → is_root boxes (box_parent boxes k) ≡ false → IsHome boxes (box_parent boxes k) h → IsHome boxes k h

-- the home of each box
pub record AreHomes (boxes : List BoxNode) (homes : List ℕ) : Type 0 where
  pub count : length homes ≡ length boxes
  pub each : (k : ℕ) → k < length boxes → IsHome boxes k (slice_index homes k)

-- a box has one at most
abbrev pub OneHome : Type 0
OneHome = (boxes : List BoxNode) (k g h : ℕ) → IsHome boxes k g → IsHome boxes k h → g ≡ h
