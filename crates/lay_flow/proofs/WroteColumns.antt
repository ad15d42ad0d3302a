-- An entry of a column was written.
use Rattle.std.proofs.Common.{ℕ, ◌≡◌, ◌<◌, Bool, true, List, length, set, arith, is_some, Option, Some, subst, sym}
use Rattle.std.proofs.lemmas.Grind.{elements}
use Rattle.std.proofs.lemmas.List.{length-map, map-set}
use Rattle.lay_units.specs.declared.length.Unit.{Unit as Length}
use Rattle.lay_flow.specs.declared.blocks.flow_box.FlowBox.{FlowBox}
use Rattle.lay_flow.specs.Blocks.Lengths.{length_at}
use Rattle.lay_flow.specs.Blocks.MarginRuns.{block_at}
use Rattle.lay_flow.specs.Blocks.BlockPositions.{is_placed}
use Rattle.lay_flow.specs.Pass.Knows.{AreExtentsKept}
use Rattle.lay_flow.specs.Blocks.Children.{flag_at}
use Rattle.lay_flow.specs.Pass.Bounds.{clears_of, clear_edges_of, edge_or_none}
use Rattle.lay_flow.proofs.ColumnWrites.{set_same, set_other, length-set'}
use Rattle.lay_flow.proofs.SoFar.{Wrote}

pub wrote_length : (column : List Length) (k : ℕ) (v : Length) → k < length column → Wrote length_at column (set column k v) k v.0
wrote_length column k v within = record { length_is = length-set' column k v; here = set_same column k v within; other = λ j ne. set_other column k j v ne }

pub wrote_flag : (flags : List Bool) (k : ℕ) (v : Bool) → k < length flags → Wrote flag_at flags (set flags k v) k v
wrote_flag flags k v within = record { length_is = grind (arith, elements); here = grind (arith, elements); other = λ j ne. grind (arith, elements) }

-- a box is given clearance
pub wrote_cleared : (edges : List (Option Length)) (k : ℕ) (edge : Length) → k < length edges → Wrote flag_at (clears_of edges) (clears_of (set edges k (Some edge))) k true
wrote_cleared edges k edge within = rw (map-set is_some edges k (Some edge)) (wrote_flag (clears_of edges) k true (rw (length-map edges is_some) within))

pub wrote_edge : (edges : List (Option Length)) (k : ℕ) (edge : Length) → k < length edges → Wrote length_at (clear_edges_of edges) (clear_edges_of (set edges k (Some edge))) k edge.0
wrote_edge edges k edge within = rw (map-set edge_or_none edges k (Some edge)) (wrote_length (clear_edges_of edges) k edge (rw (length-map edges edge_or_none) within))

-- a depth was written
pub wrote_extent : (boxes : List FlowBox) (k : ℕ) (old new : List Length) (v : Length) → is_placed (block_at boxes k).inside ≡ true → new ≡ set old k v → AreExtentsKept boxes k old new
wrote_extent boxes k old new v placed is j early =
    rw is (set_other old k j v (λ e. let lt = early (subst (λ (i : ℕ). is_placed (block_at boxes i).inside ≡ true) (sym e) placed) in omega (arith, lt, e)))
