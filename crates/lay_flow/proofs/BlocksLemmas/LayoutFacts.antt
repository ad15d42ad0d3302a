-- What the equations of the positions of a layout say, of a box that isn't the context's own.
use Rattle.std.proofs.Common.{◌≡◌, ℕ, zero, suc, ◌<◌, true, false, ◌+ℤ◌, ◌-ℤ◌, List, length, refl, ◌∙◌, arith, Some, None, if◌then◌else◌}
use Rattle.lay_flow.specs.declared.blocks.flow_box.FlowBox.{FlowBox}
use Rattle.lay_flow.specs.Blocks.Boxes.{parent_at}
use Rattle.lay_margins.specs.Collapse.{collapse}
use Rattle.lay_flow.specs.Blocks.Lengths.{length_at}
use Rattle.lay_flow.specs.Blocks.Children.{last_child, flag_at}
use Rattle.lay_flow.specs.Blocks.MarginRuns.{margins, has_top, block_at, run_at, parts_tops, run_before}
use Rattle.lay_flow.specs.Blocks.BlockLayout.{BlockLayout}
use Rattle.lay_flow.specs.Blocks.BlockPositions.{IsBlockLayout, start_below, start_before}

module _ (boxes : List FlowBox) (y : BlockLayout) where
  pub start_first : (p m : ℕ) → last_child boxes p m ≡ None → start_before boxes y p m ≡ (if parts_tops boxes p then (length_at y.places.marks p +ℤ (block_at boxes p).edge_top.0) else length_at y.places.starts p)
  start_first p m e = rw e refl

  pub start_next : (p m c : ℕ) → last_child boxes p m ≡ Some c → start_before boxes y p m ≡ start_below y c
  start_next p m c e = rw e refl

module _ (boxes : List FlowBox) (y : BlockLayout) (is : IsBlockLayout boxes y) where
  pub mark_standing : (j : ℕ) → 0 < j → j < length boxes → flag_at y.runs.through j ≡ false → length_at y.places.marks j ≡ length_at y.places.starts j +ℤ collapse (margins (run_at y.runs.top_runs j))
  mark_standing zero lt within p = absurd (omega (arith, lt))
  mark_standing (suc j) lt within p = is.has_positions.mark (suc j) within ∙ rw p refl

  pub mark_inherits : (j : ℕ) → 0 < j → j < length boxes → flag_at y.runs.through j ≡ true → has_top (parent_at boxes j) (run_at y.runs.before_tops j) ≡ true → length_at y.places.marks j ≡ length_at y.places.marks (parent_at boxes j)
  mark_inherits zero lt within p h = absurd (omega (arith, lt))
  mark_inherits (suc j) lt within p h = is.has_positions.mark (suc j) within ∙ rw (p, h) refl

  pub mark_through : (j : ℕ) → 0 < j → j < length boxes → flag_at y.runs.through j ≡ true → has_top (parent_at boxes j) (run_at y.runs.before_tops j) ≡ false → length_at y.places.marks j ≡ length_at y.places.starts j +ℤ collapse (margins (run_before boxes y.runs j (length boxes)))
  mark_through zero lt within p h = absurd (omega (arith, lt))
  mark_through (suc j) lt within p h = is.has_positions.mark (suc j) within ∙ rw (p, h) refl

  pub start_flows : (k : ℕ) → 0 < k → k < length boxes → flag_at y.runs.clears k ≡ false → length_at y.places.starts k ≡ start_before boxes y (parent_at boxes k) k
  start_flows zero lt within f = absurd (omega (arith, lt))
  start_flows (suc k) lt within f = is.has_positions.start (suc k) within ∙ rw f refl

  -- a run that clearance begins starts so that its box stands at the clear edge
  pub start_clears : (k : ℕ) → 0 < k → k < length boxes → flag_at y.runs.clears k ≡ true → flag_at y.runs.through k ≡ false → length_at y.places.starts k ≡ length_at y.clear_edges k -ℤ collapse (margins (run_at y.runs.top_runs k))
  start_clears zero lt within f t = absurd (omega (arith, lt))
  start_clears (suc k) lt within f t = is.has_positions.start (suc k) within ∙ rw (f, t) refl

  pub start_clears_through : (k : ℕ) → 0 < k → k < length boxes → flag_at y.runs.clears k ≡ true → flag_at y.runs.through k ≡ true → length_at y.places.starts k ≡ length_at y.clear_edges k -ℤ collapse (margins (run_before boxes y.runs k (length boxes)))
  start_clears_through zero lt within f t = absurd (omega (arith, lt))
  start_clears_through (suc k) lt within f t = is.has_positions.start (suc k) within ∙ rw (f, t) refl
