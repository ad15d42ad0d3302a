-- How far one pass over the boxes has come, which reads the margins of a context in document order.
use Rattle.std.specs.Prelude.{ℕ, ◌≡◌, ◌⊎◌, ◌<◌, ◌≤◌, Bool, true, false, ℤ, List, [], length}
use Rattle.lay_flow.specs.declared.blocks.flow_box.FlowBox.{FlowBox}
use Rattle.lay_flow.specs.Blocks.Boxes.{parent_at}
use Rattle.lay_units.specs.declared.length.Unit.{Unit as Length}
use Rattle.lay_margins.specs.StrutValue.{StrutValue}
use Rattle.lay_margins.specs.Collapse.{Holds}
use Rattle.lay_flow.specs.Blocks.Children.{flag_at}
use Rattle.lay_flow.specs.Blocks.MarginRuns.{margins, has_top, run_at, run_before}
use Rattle.lay_flow.specs.Blocks.MarginPlace.{IsAround, MarginPlace, margin_place}
use Rattle.lay_flow.specs.Blocks.Gathered.{Gathered}
use Rattle.lay_flow.specs.Blocks.Lengths.{length_at}
use Rattle.lay_flow.specs.Blocks.BlockPositions.{start_before}
use Rattle.lay_flow.specs.Blocks.BlockLayout.{BlockLayout}

-- what the pass keeps: columns of the marks and heights as far as they are known, of the boxes that are known to be
-- collapsed through, and of clearance as decided so far; and the run that it is in: its margins so far, and the first
-- box whose top margin is in it. The boxes from there on wait for their marks.
pub record PassState : Type 0 where
  pub marks : List Length
  pub heights : List Length
  pub through : List Bool
  pub clears : List Bool
  pub clear_edges : List Length
  -- where the run starts; if it hangs, the clear edge of the box at `first`
  pub start : ℤ
  pub strut : StrutValue
  pub first : ℕ
  -- the run was begun by clearance of the box at `first`, which is open: the run ends at its clear edge, or, if the box
  -- comes out as collapsed through, starts above that
  pub hangs : Bool

-- the columns of that, and the first box that waits for its mark
pub record Columns : Type 0 where
  pub marks : List Length
  pub heights : List Length
  pub through : List Bool
  pub first : ℕ

abbrev pub columns_of : PassState → Columns
columns_of now = record { marks = now.marks; heights = now.heights; through = now.through; first = now.first }

-- and clearance as decided so far: the boxes that have it, and their clear edges
pub record Clearances : Type 0 where
  pub flags : List Bool
  pub edges : List Length

abbrev pub clearances_of : PassState → Clearances
clearances_of now = record { flags = now.clears; edges = now.clear_edges }

-- a box whose bottom margin was passed
pub record IsDone (y : BlockLayout) (now : Columns) (j : ℕ) : Type 0 where
  pub pass : flag_at now.through j ≡ flag_at y.runs.through j
  pub height : length_at now.heights j ≡ length_at y.places.heights j

-- the boxes before the first that waits have their marks, as far as is known
pub record Marked (boxes : List FlowBox) (y : BlockLayout) (now : Columns) : Type 0 where
  pub stands : (j : ℕ) → j < now.first → flag_at now.through j ≡ false → flag_at y.runs.through j ≡ false
      → length_at now.marks j ≡ length_at y.places.marks j
  pub inherits : (j : ℕ) → j < now.first → flag_at now.through j ≡ true
      → has_top (parent_at boxes j) (run_at y.runs.before_tops j) ≡ true → length_at now.marks j ≡ length_at now.marks (parent_at boxes j)

-- the columns are those of the layout y, as far as they are known at a place: boxes were opened up to there, and those of them
-- that stand after the innermost open one or whose subtree ended were closed
pub record IsSoFar (boxes : List FlowBox) (y : BlockLayout) (now : Columns) (at : MarginPlace) : Type 0 where
  pub passed : (j : ℕ) → j < at.next → flag_at now.through j ≡ true → flag_at y.runs.through j ≡ true
  pub closed : (j : ℕ) → at.inner < j → j < at.next → IsDone y now j
  pub gone : (j i : ℕ) → j < i → i < at.next → parent_at boxes i < j → IsDone y now j
  pub marked : Marked boxes y now
  pub kept : (j : ℕ) → j < at.next → flag_at now.through j ≡ true → has_top (parent_at boxes j) (run_at y.runs.before_tops j) ≡ false
      → length_at now.marks j ≡ length_at y.places.marks j
  pub fresh : (j : ℕ) → at.next ≤ j → flag_at now.through j ≡ false
  pub open_yet : (j : ℕ) → j ≤ at.inner → IsAround boxes j at.next → flag_at now.through j ≡ false

-- the run hangs from the clear edge of the box at `first`
pub record Hangs (boxes : List FlowBox) (y : BlockLayout) (now : PassState) (at : MarginPlace) : Type 0 where
  pub clears : flag_at y.runs.clears now.first ≡ true
  pub edge : now.start ≡ length_at y.clear_edges now.first
  pub open_yet : now.first ≤ at.inner
  pub contains : IsAround boxes now.first at.next

-- the run that comes to a place is that of the layout y
pub record IsInRun (boxes : List FlowBox) (y : BlockLayout) (now : PassState) (at : MarginPlace) : Type 0 where
  pub gathered : Gathered boxes y.runs now.first at
  pub strut_holds : Holds now.strut (margins (run_before boxes y.runs at.inner at.next))
  pub start_is : now.hangs ≡ false → now.start ≡ start_before boxes y at.inner at.next
  pub hanging : now.hangs ≡ true → Hangs boxes y now at

-- what is kept at a place is that of y
pub record IsAt (boxes : List FlowBox) (y : BlockLayout) (now : PassState) (at : MarginPlace) : Type 0 where
  pub so_far : IsSoFar boxes y (columns_of now) at
  pub in_run : IsInRun boxes y now at

-- the clearance of the box at k begins a run, before its top margin
pub record BeginsRun (y : BlockLayout) (now : PassState) (k : ℕ) : Type 0 where
  pub clears : flag_at y.runs.clears k ≡ true
  pub first_is : now.first ≡ k
  pub hangs : now.hangs ≡ true
  pub edge : now.start ≡ length_at y.clear_edges k
  pub strut_holds : Holds now.strut []

-- what is kept before the top margin of the box at k, and behind its clearance if it has that, is that of y
pub record IsBefore (boxes : List FlowBox) (y : BlockLayout) (now : PassState) (k : ℕ) : Type 0 where
  pub so_far : IsSoFar boxes y (columns_of now) (margin_place (parent_at boxes k) k)
  pub run : ((flag_at y.runs.clears k ≡ false) × IsInRun boxes y now (margin_place (parent_at boxes k) k)) ⊎ BeginsRun y now k

-- A run that ended: the boxes that are known to be collapsed through, the first box whose top margin is in it, the place
-- behind the last, and the mark where it ended.
pub record RunEnd : Type 0 where
  pub through : List Bool
  pub first : ℕ
  pub next : ℕ
  pub mark : ℤ

abbrev pub ended_run : Columns → ℕ → ℤ → RunEnd
ended_run now m end = record { through = now.through; first = now.first; next = m; mark = end }

-- the marks of the boxes of a run were set once it ended
pub record Settled (boxes : List FlowBox) (run : RunEnd) (old new : List Length) : Type 0 where
  pub length_is : length new ≡ length old
  pub before : (j : ℕ) → j < run.first → length_at new j ≡ length_at old j
  pub after : (j : ℕ) → run.next ≤ j → length_at new j ≡ length_at old j
  pub stands : (j : ℕ) → run.first ≤ j → j < run.next → flag_at run.through j ≡ false → length_at new j ≡ run.mark
  pub keeps : (j : ℕ) → run.first ≤ j → j < run.next → flag_at run.through j ≡ true → parent_at boxes j < run.first
      → length_at new j ≡ length_at old j
  pub inherits : (j : ℕ) → run.first ≤ j → j < run.next → flag_at run.through j ≡ true
      → run.first ≤ parent_at boxes j → length_at new j ≡ length_at new (parent_at boxes j)
