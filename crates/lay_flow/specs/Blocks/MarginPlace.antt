-- The places of the sequence of margins of a context (CSS 2.2, 8.3.1). At the place (p, m) the boxes before m are opened,
-- and p is the innermost open one.
use Rattle.std.specs.Prelude.{ℕ, ◌<◌, ◌≤◌, List, length}
use Rattle.lay_flow.specs.declared.blocks.flow_box.FlowBox.{FlowBox}
use Rattle.lay_flow.specs.Blocks.Boxes.{parent_at}

pub record MarginPlace : Type 0 where
  -- the innermost open box
  pub inner : ℕ
  -- the first box that isn't opened
  pub next : ℕ

abbrev pub margin_place : ℕ → ℕ → MarginPlace
margin_place p m = record { inner = p; next = m }

-- the box at j is around the place m: the boxes from j to before m stand in it
abbrev pub IsAround : List FlowBox → ℕ → ℕ → Type 0
IsAround boxes j m = (i : ℕ) → j < i → i < m → j ≤ parent_at boxes i

-- no box that is closed there has the box at m in it
pub record IsPlace (boxes : List FlowBox) (p m : ℕ) : Type 0 where
  pub parent : p < m
  pub within : m ≤ length boxes
  pub inside : IsAround boxes p m
  pub next : m < length boxes → parent_at boxes m ≤ p
