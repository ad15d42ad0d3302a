-- How large the numbers of a pass become, by the weight w of the boxes so far. Between a mark and the next lie at most a height
-- and what a run's margins collapse to, or a float, which together are less than 2^36 units; lines reach at most 2^36 units
-- further for each weight of theirs; and the first float lies within 2^51 units.
use Rattle.std.specs.Prelude.{ℕ, ◌≡◌, ◌+◌, ◌*◌, ◌<◌, ◌≤◌, ℤ, pos, neg_ℤ, ◌≤ℤ◌, ◌==◌, ◌&&◌, nat_lt}
use Rattle.std.specs.Prelude.{Bool, true, false, List, length, map, is_some, Option, Some, None}
use Rattle.lay_flow.specs.declared.blocks.flow_box.FlowBox.{FlowBox}
use Rattle.lay_flow.specs.Blocks.Boxes.{parent_at}
use Rattle.lay_units.specs.Units.{IsBoxSize, IsNear}
use Rattle.lay_units.specs.declared.length.Unit.{Unit as Length}
use Rattle.lay_units.specs.Lengths.{no_length}
use Rattle.lay_flow.specs.declared.pass.Pass.{Pass}
use Rattle.lay_flow.specs.declared.pass.RunStart.{RunStart}
use Rattle.lay_flow.specs.declared.pass.RunStart.TheVariants.{At as starts_at, HangsFrom as hangs_from}
use Rattle.lay_flow.specs.Blocks.Lengths.{length_at}
use Rattle.lay_flow.specs.Blocks.Children.{flag_at}
use Rattle.lay_flow.specs.Blocks.MarginRuns.{block_at, parts_tops}
use Rattle.lay_flow.specs.Blocks.BlockPositions.{is_solid}
use Rattle.lay_flow.specs.Blocks.Weights.{weight}
use Rattle.lay_flow.specs.Pass.State.{PassState}
use Rattle.lay_flow.specs.Pass.Struts.{StrutFits}

-- how far from the origin boxes of this weight reach
abbrev pub reach : ℕ → ℤ
reach w = pos (2251799813685248 + 68719476736 * w)

-- where a box without clearance may begin a run
abbrev pub IsStartNear : ℕ → ℤ → Type 0
IsStartNear w v = (neg_ℤ (reach w) ≤ℤ v) × (v ≤ℤ reach w)

-- a clear edge of the box behind them
abbrev pub IsEdgeNear : ℕ → ℤ → Type 0
IsEdgeNear w v =
    (neg_ℤ (pos (2251799813685248 + 68719476736 * w + 2147483648)) ≤ℤ v) × (v ≤ℤ pos (2251799813685248 + 68719476736 * w + 2147483648))

-- a start of a run whose first top margin is that of the box behind them
abbrev pub IsRunNear : ℕ → ℤ → Type 0
IsRunNear w v =
    (neg_ℤ (pos (2251799813685248 + 68719476736 * w + 4294967296)) ≤ℤ v) × (v ≤ℤ pos (2251799813685248 + 68719476736 * w + 4294967296))

-- a mark of the box behind them
abbrev pub IsMarkNear : ℕ → ℤ → Type 0
IsMarkNear w v =
    (neg_ℤ (pos (2251799813685248 + 68719476736 * w + 6442450944)) ≤ℤ v) × (v ≤ℤ pos (2251799813685248 + 68719476736 * w + 6442450944))

pub record StateFits (boxes : List FlowBox) (now : PassState) (p m : ℕ) : Type 0 where
  pub parent : p < m
  pub within : m ≤ length boxes
  pub first_least : 0 < now.first
  pub first_most : now.first ≤ m
  pub marks_length : length now.marks ≡ length boxes
  pub heights_length : length now.heights ≡ length boxes
  pub through_length : length now.through ≡ length boxes
  pub start_near : IsRunNear (weight boxes now.first) now.start
  pub edge_near : now.hangs ≡ true → IsEdgeNear (weight boxes now.first) now.start
  pub mark_near : (j : ℕ) → IsMarkNear (weight boxes j) (length_at now.marks j)
  pub strut_fits : StrutFits now.strut
  -- the boxes that wait for their marks have no border or padding above their content
  pub unparted : (j : ℕ) → now.first ≤ j → j < m → parts_tops boxes j ≡ false
  pub sized : (j : ℕ) → is_solid (block_at boxes j).inside ≡ false → IsBoxSize (length_at now.heights j)

-- where a run starts, or, if it hangs, the clear edge
abbrev pub position_of : RunStart → ℤ
position_of (starts_at start) = start.0
position_of (hangs_from edge) = edge.0

abbrev pub is_hanging : RunStart → Bool
is_hanging (starts_at start) = false
is_hanging (hangs_from edge) = true

abbrev pub edge_or_none : Option Length → Length
edge_or_none None = no_length
edge_or_none (Some edge) = edge

-- of the clear edges of boxes with clearance the two columns that say which have it, and where
abbrev pub clears_of : List (Option Length) → List Bool
clears_of edges = map is_some edges

abbrev pub clear_edges_of : List (Option Length) → List Length
clear_edges_of edges = map edge_or_none edges

abbrev pub state_of : Pass → PassState
state_of f = record {
  marks = f.marks.items;
  heights = f.heights.items;
  through = f.through.items;
  clears = clears_of f.clear_edges.items;
  clear_edges = clear_edges_of f.clear_edges.items;
  start = position_of f.start;
  strut = f.strut.strut;
  first = f.first;
  hangs = is_hanging f.start;
}

-- the run was begun by clearance of a child of p
abbrev pub is_barred : List FlowBox → PassState → ℕ → Bool
is_barred boxes now p = nat_lt now.first (length now.clears) && flag_at now.clears now.first && parent_at boxes now.first == p

-- the tops of border boxes are near
abbrev pub AreNear : List Length → Type 0
AreNear tops = (k : ℕ) → k < length tops → IsNear (length_at tops k)

-- the heights of border boxes lie within their bounds. That of a solid box, which may be of any extent, is left open.
abbrev pub AreBoxHeights : List FlowBox → List Length → Type 0
AreBoxHeights boxes heights = (k : ℕ) → k < length heights → is_solid (block_at boxes k).inside ≡ false → IsBoxSize (length_at heights k)
