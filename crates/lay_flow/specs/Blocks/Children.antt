-- The children of a box. The boxes are in document order and known by the list of the place of each one's
-- parent, the first box at place 0. Of the parents 0, 0, 1, 0 the first box has two children, at the places
-- 1 and 3, and the second box has one, at the place 2.
use Rattle.std.specs.Prelude.{ℕ, zero, suc, ◌==◌, ◌&&◌, Bool, false, List, slice_index_or, nat_lt, not, if◌then◌else◌, Option, Some, None}
use Rattle.lay_flow.specs.declared.blocks.flow_box.FlowBox.{FlowBox}
use Rattle.lay_flow.specs.Blocks.Boxes.{parent_at}

-- the box at k is a child of the one at p
abbrev pub is_child : List FlowBox → ℕ → ℕ → Bool
is_child boxes p k = nat_lt p k && parent_at boxes k == p

-- the last child of p that stands before the place m
abbrev pub last_child : List FlowBox → ℕ → ℕ → Option ℕ
last_child boxes p zero = None
last_child boxes p (suc k) = if is_child boxes p k then Some k else last_child boxes p k

abbrev pub or_else_place : Option ℕ → Option ℕ → Option ℕ
or_else_place None o = o
or_else_place (Some k) o = Some k

-- the first child of p that stands at the place m or after it, and before the place n
abbrev pub next_child : List FlowBox → ℕ → ℕ → ℕ → Option ℕ
next_child boxes p m zero = None
next_child boxes p m (suc k) = or_else_place (next_child boxes p m k) (if is_child boxes p k && not (nat_lt k m) then Some k else None)

-- a flag in a column of such
abbrev pub flag_at : List Bool → ℕ → Bool
flag_at flags k = slice_index_or flags k false
