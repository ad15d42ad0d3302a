-- Which margins adjoin (CSS 2.2, 8.3.1), in the four cases of the standard. A float stands among the boxes as an empty block
-- without margins. A run of the layout is a longest chain of margins in which each adjoins the next: the law
-- `adjoining_runs` says so of the columns of `MarginRuns`.
--
-- For example, a root has two children. The first has a height, the second is empty. The bottom margin of the first adjoins
-- the top margin of the second (b), and that the bottom margin of the second (d): the three are a run. The top margin of the
-- first adjoins none before it, since the root's margins adjoin none, and none after it, since the first box has a height.
use Rattle.std.specs.Prelude.{ℕ, ◌≡◌, ◌<◌, true, false, List, [], ◌∷◌, ◌++◌, length, Some, None, if◌then◌else◌}
use Rattle.lay_flow.specs.declared.blocks.flow_box.FlowBox.{FlowBox}
use Rattle.lay_flow.specs.Blocks.Boxes.{parent_at}
use Rattle.lay_flow.specs.Blocks.Children.{last_child, flag_at}
use Rattle.lay_flow.specs.Blocks.MarginRuns.{Entry, margin, mark, clear, Runs, block_at, is_barred}
use Rattle.lay_flow.specs.Blocks.MarginRuns.{may_collapse_through, may_join_bottoms, parts_tops, run_at, to_top}

-- a margin of the box at k, which isn't the context's own
pub data Margin : Type 0 where
  top : ℕ → Margin
  bottom : ℕ → Margin

abbrev pub IsMargin : List FlowBox → Margin → Type 0
IsMargin boxes (top k) = (0 < k) × (k < length boxes)
IsMargin boxes (bottom k) = (0 < k) × (k < length boxes)

-- the run of the margin, up to and with it
abbrev pub run_to : List FlowBox → Runs → Margin → List Entry
run_to boxes r (top k) = to_top boxes r k
run_to boxes r (bottom k) = run_at r.to_bottoms k

-- the whole run of the margin
abbrev pub run_of : Runs → Margin → List Entry
run_of r (top k) = run_at r.top_runs k
run_of r (bottom k) = run_at r.bottom_runs k

-- Two margins adjoin, and the first of them stands before the other one in document order.
pub data Adjoins (boxes : List FlowBox) (r : Runs) : Margin → Margin → Type 0 where
  -- (a) the top margins of a box and of its first child: no border and no padding of the box parts them, and no clearance
  first_child : (c : ℕ) → 0 < c → c < length boxes → last_child boxes (parent_at boxes c) c ≡ None
      → parts_tops boxes (parent_at boxes c) ≡ false → flag_at r.clears c ≡ false → Adjoins boxes r (top (parent_at boxes c)) (top c)
  -- (b) the bottom margin of a box and the top margin of its next sibling, which no clearance parts
  next_sibling : (s c : ℕ) → 0 < c → c < length boxes → last_child boxes (parent_at boxes c) c ≡ Some s
      → flag_at r.clears c ≡ false → Adjoins boxes r (bottom s) (top c)
  -- (c) the bottom margins of a last child and of its parent, which has an auto height, no min-height, and no border and no
  -- padding there; not those that begin with the clearance of one of its children
  last_margin : (p c : ℕ) → 0 < p → p < length boxes → last_child boxes p (length boxes) ≡ Some c
      → may_join_bottoms (block_at boxes p) ≡ true → is_barred boxes p (run_to boxes r (bottom c)) ≡ false
      → Adjoins boxes r (bottom c) (bottom p)
  -- (d) the top and the bottom margin of a box without children, with no border or padding, no min-height, and a height of
  -- auto or 0
  own_margins : (p : ℕ) → 0 < p → p < length boxes → last_child boxes p (length boxes) ≡ None
      → may_collapse_through (block_at boxes p) ≡ true → Adjoins boxes r (top p) (bottom p)
  -- and of a box that is collapsed through, since its children are (law `collapsed_through`): its bottom margin adjoins theirs
  collapsed_through : (p c : ℕ) → 0 < p → p < length boxes → last_child boxes p (length boxes) ≡ Some c
      → flag_at r.through p ≡ true → Adjoins boxes r (bottom c) (bottom p)

-- what stands for the margin in a run, and what it begins one with
abbrev pub entries_of_margin : List FlowBox → Margin → List Entry
entries_of_margin boxes (top k) = mark k ∷ margin (block_at boxes k).margin_top.0 ∷ []
entries_of_margin boxes (bottom k) = margin (block_at boxes k).margin_bottom.0 ∷ []

abbrev pub clearance_of : Runs → Margin → List Entry
clearance_of r (top k) = if flag_at r.clears k then clear k ∷ [] else []
clearance_of r (bottom k) = []

-- the runs are the longest chains of margins of which each adjoins the next
pub record RunsAdjoin (boxes : List FlowBox) (r : Runs) : Type 0 where
  -- a margin goes on with the run of the one that it adjoins
  pub goes_on : (x y : Margin) → Adjoins boxes r x y → run_to boxes r y ≡ run_to boxes r x ++ entries_of_margin boxes y
  -- and begins one, where it adjoins none before it
  pub begins : (y : Margin) → IsMargin boxes y → ((x : Margin) → Adjoins boxes r x y → ⊥)
      → run_to boxes r y ≡ clearance_of r y ++ entries_of_margin boxes y
  -- margins that adjoin are in one run
  pub one_run : (x y : Margin) → Adjoins boxes r x y → run_of r x ≡ run_of r y
  -- which ends with a margin that adjoins none after it
  pub ends : (x : Margin) → IsMargin boxes x → ((y : Margin) → Adjoins boxes r x y → ⊥) → run_of r x ≡ run_to boxes r x
