-- Runs of adjoining margins of the blocks of one block formatting context (CSS 2.2, 8.3.1).
--
-- In document order the margins of a context stand in one sequence: the top margin of a box, then those of its
-- children, then its bottom margin. Two that are neighbours there are of one of four kinds: the top margins
-- of a box and of its first child, the bottom margin of a box and the top margin of its next sibling, the
-- bottom margins of a last child and of its parent, the two margins of a box without children. A run is a
-- longest stretch of that in which each margin adjoins the next. Where two neighbours don't adjoin, a new
-- run begins. The margins of the context's own box are in no run.
--
-- For example, a root has two children. The first has a bottom margin of 20 px, and a height. The second is
-- empty, with a top margin of 10 px and a bottom margin of -30 px. These three margins adjoin and are a run,
-- since nothing stands between the margins of the second box: it is collapsed through. The first box's top
-- margin of 0 is a run of its own.
--
-- A place (p, m) in the sequence is the one
-- before the top margin of the child of p at m, or, where no child of p stands at m or later, the one before
-- p's bottom margin: the boxes before m are passed, and p is open.
use Rattle.std.specs.Prelude.{ℕ, zero, suc, ◌≡◌, ◌+◌, ◌<◌, ◌==◌, ◌&&◌, ◌||◌, not, Bool, true, false, ℤ, pos, negsuc}
use Rattle.std.specs.Prelude.{List, [], ◌∷◌, ◌++◌, length, slice_index_or, if◌then◌else◌, Option, Some, None}
use Rattle.lay_flow.specs.declared.blocks.flow_box.FlowBox.{FlowBox}
use Rattle.lay_flow.specs.Blocks.Boxes.{box_at, parent_at}
use Rattle.lay_units.specs.declared.records.Len.{Len}
use Rattle.lay_units.specs.declared.records.Len.TheVariants.{Auto as auto, Of as of}
use Rattle.lay_units.specs.Lengths.{no_length}
use Rattle.lay_flow.specs.declared.blocks.flow_box.BlockBox.{BlockBox}
use Rattle.lay_flow.specs.declared.blocks.flow_box.FlowKind.{FlowKind}
use Rattle.lay_flow.specs.declared.blocks.flow_box.FlowKind.TheVariants.{Block as block, Lines as lines, Solid as solid}
use Rattle.lay_flow.specs.declared.blocks.flow_box.FlowKind.TheVariants.{Float as float, LineFloat as line_float, Inline as inline}
use Rattle.lay_flow.specs.declared.blocks.block.Block.{Block}
use Rattle.lay_flow.specs.declared.blocks.block.Inside.{Inside}
use Rattle.lay_flow.specs.declared.blocks.block.Inside.TheVariants.{Blocks as blocks_inside, Lines as lines_inside, Solid as solid_inside}
use Rattle.lay_flow.specs.Blocks.Children.{last_child, next_child, flag_at}

abbrev pub no_block : Block
no_block = record {
  margin_top = no_length;
  margin_bottom = no_length;
  edge_top = no_length;
  edge_bottom = no_length;
  height = auto;
  min_height = no_length;
  max_height = None;
  inside = blocks_inside;
}

abbrev pub block_with : BlockBox → Inside → Block
block_with b inside = record {
  margin_top = b.margin.top;
  margin_bottom = b.margin.bottom;
  edge_top = b.inset.top;
  edge_bottom = b.inset.bottom;
  height = b.height.given;
  min_height = b.height.min;
  max_height = b.height.max;
  inside = inside;
}

-- a box as margins and heights see it. A float stands among the blocks as an empty one: its mark is that which such a block
-- has there. So does what stands in lines: the box with the lines has all that counts.
abbrev pub block_of : FlowKind → Block
block_of (block b) = block_with b blocks_inside
block_of (lines l) = block_with l.block lines_inside
block_of (solid b) = record {
  margin_top = b.margin.top;
  margin_bottom = b.margin.bottom;
  edge_top = no_length;
  edge_bottom = no_length;
  height = auto;
  min_height = no_length;
  max_height = None;
  inside = solid_inside;
}
block_of (float b) = no_block
block_of (line_float b) = no_block
block_of inline = no_block

abbrev pub block_at : List FlowBox → ℕ → Block
block_at boxes k = block_of (box_at boxes k).kind

-- what a run is made of: margins, before each top margin the mark of its box, and at its beginning the
-- clearance of a box, where it begins with that
pub data Entry : Type 0 where
  margin : ℤ → Entry
  mark : ℕ → Entry
  clear : ℕ → Entry

abbrev pub margins : List Entry → List ℤ
margins [] = []
margins (margin v ∷ run) = v ∷ margins run
margins (mark k ∷ run) = margins run
margins (clear k ∷ run) = margins run

-- the top margin of the box at k is in the run
abbrev pub has_top : ℕ → List Entry → Bool
has_top k [] = false
has_top k (margin v ∷ run) = has_top k run
has_top k (mark j ∷ run) = j == k || has_top k run
has_top k (clear j ∷ run) = has_top k run

-- the run begins with clearance of a child of p
abbrev pub is_barred : List FlowBox → ℕ → List Entry → Bool
is_barred boxes p [] = false
is_barred boxes p (margin v ∷ run) = false
is_barred boxes p (mark j ∷ run) = false
is_barred boxes p (clear j ∷ run) = parent_at boxes j == p

-- a run in a column of such
abbrev pub run_at : List (List Entry) → ℕ → List Entry
run_at runs k = slice_index_or runs k []

abbrev pub is_zero : ℤ → Bool
is_zero (pos n) = n == 0
is_zero (negsuc n) = false

abbrev pub is_blocks : Inside → Bool
is_blocks blocks_inside = true
is_blocks lines_inside = false
is_blocks solid_inside = false

abbrev pub is_auto_size : Len → Bool
is_auto_size auto = true
is_auto_size (of h) = false

abbrev pub is_auto_or_zero : Len → Bool
is_auto_or_zero auto = true
is_auto_or_zero (of h) = is_zero h.0

-- no border or padding, no height and no min-height parts the two margins of the box
abbrev pub may_collapse_through : Block → Bool
may_collapse_through b =
    is_blocks b.inside && is_zero b.edge_top.0 && is_zero b.edge_bottom.0 && is_zero b.min_height.0 && is_auto_or_zero b.height

-- nothing of the box itself parts its bottom margin from that of its last child: it has an auto height, no
-- min-height, and no border or padding there
abbrev pub may_join_bottoms : Block → Bool
may_join_bottoms b = is_blocks b.inside && is_zero b.edge_bottom.0 && is_zero b.min_height.0 && is_auto_size b.height

-- the box parts its top margin from those of its children: it is the context's own, or has a border or a
-- padding there
abbrev pub parts_tops : List FlowBox → ℕ → Bool
parts_tops boxes zero = true
parts_tops boxes (suc k) = not (is_zero (block_at boxes (suc k)).edge_top.0)

-- The runs, by columns with an entry for each box.
pub record Runs : Type 0 where
  -- the box has clearance
  pub clears : List Bool
  -- its two margins are in one run: it is collapsed through
  pub through : List Bool
  -- the run of its top margin, before that margin
  pub before_tops : List (List Entry)
  -- the run of its bottom margin, up to and with that margin
  pub to_bottoms : List (List Entry)
  -- the whole run of its top margin
  pub top_runs : List (List Entry)
  -- the whole run of its bottom margin
  pub bottom_runs : List (List Entry)

-- the run of the top margin of the box, up to and with that margin
abbrev pub to_top : List FlowBox → Runs → ℕ → List Entry
to_top boxes r k = run_at r.before_tops k ++ mark k ∷ margin (block_at boxes k).margin_top.0 ∷ []

-- the run that ends at the place (p, m) of the sequence, so far: it has the bottom margin of the last child before
-- m, or, where there is none, p's own top margin, unless p parts that from what is in it
abbrev pub run_before : List FlowBox → Runs → ℕ → ℕ → List Entry
run_before boxes r p m = after (last_child boxes p m)
  where
    after : Option ℕ → List Entry
    after None = if parts_tops boxes p then [] else to_top boxes r p
    after (Some s) = run_at r.to_bottoms s

-- nothing parts the two margins of the box, and none of the boxes in it: the run that comes to its bottom
-- margin still has its top margin
abbrev pub through_of : List FlowBox → Runs → ℕ → Bool
through_of boxes r zero = false
through_of boxes r (suc k) = may_collapse_through (block_at boxes (suc k)) && has_top (suc k) (run_before boxes r (suc k) (length boxes))

-- the bottom margin of the box adjoins the margin before it; it doesn't where that one's run was begun by
-- clearance of a child
abbrev pub joins_bottom : List FlowBox → Runs → ℕ → Bool
joins_bottom boxes r zero = false
joins_bottom boxes r (suc k) =
    flag_at r.through (suc k)
    || (may_join_bottoms (block_at boxes (suc k)) && not (is_barred boxes (suc k) (run_before boxes r (suc k) (length boxes))))

-- the whole run that ends at or goes through the place (p, m): it goes on where the next margin adjoins
abbrev pub run_across : List FlowBox → Runs → ℕ → ℕ → List Entry
run_across boxes r p m = before (next_child boxes p m (length boxes))
  where
    before : Option ℕ → List Entry
    before None = if joins_bottom boxes r p then run_at r.bottom_runs p else run_before boxes r p m
    before (Some c) = if flag_at r.clears c then run_before boxes r p m else run_at r.top_runs c

-- clearance parts the top margin of its box from the margins before it
abbrev pub before_top_of : List FlowBox → Runs → ℕ → List Entry
before_top_of boxes r zero = []
before_top_of boxes r (suc k) =
    if flag_at r.clears (suc k) then clear (suc k) ∷ [] else run_before boxes r (parent_at boxes (suc k)) (suc k)

abbrev pub to_bottom_of : List FlowBox → Runs → ℕ → List Entry
to_bottom_of boxes r zero = []
to_bottom_of boxes r (suc k) =
    (if joins_bottom boxes r (suc k) then run_before boxes r (suc k) (length boxes) else [])
    ++ margin (block_at boxes (suc k)).margin_bottom.0 ∷ []

abbrev pub top_run_of : List FlowBox → Runs → ℕ → List Entry
top_run_of boxes r zero = []
top_run_of boxes r (suc k) = if parts_tops boxes (suc k) then to_top boxes r (suc k) else run_across boxes r (suc k) (suc k + 1)

abbrev pub bottom_run_of : List FlowBox → Runs → ℕ → List Entry
bottom_run_of boxes r zero = []
bottom_run_of boxes r (suc k) = run_across boxes r (parent_at boxes (suc k)) (suc k + 1)

-- these are the runs of a context, in which the boxes of the column `clears` have clearance
pub record HasRuns (boxes : List FlowBox) (r : Runs) : Type 0 where
  pub clears_length : length r.clears ≡ length boxes
  pub through_length : length r.through ≡ length boxes
  pub before_tops_length : length r.before_tops ≡ length boxes
  pub to_bottoms_length : length r.to_bottoms ≡ length boxes
  pub top_runs_length : length r.top_runs ≡ length boxes
  pub bottom_runs_length : length r.bottom_runs ≡ length boxes
  pub through : (k : ℕ) → k < length boxes → flag_at r.through k ≡ through_of boxes r k
  pub before_top : (k : ℕ) → k < length boxes → run_at r.before_tops k ≡ before_top_of boxes r k
  pub to_bottom : (k : ℕ) → k < length boxes → run_at r.to_bottoms k ≡ to_bottom_of boxes r k
  pub top_run : (k : ℕ) → k < length boxes → run_at r.top_runs k ≡ top_run_of boxes r k
  pub bottom_run : (k : ℕ) → k < length boxes → run_at r.bottom_runs k ≡ bottom_run_of boxes r k
