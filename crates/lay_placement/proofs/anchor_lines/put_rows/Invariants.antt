use Rattle.std.proofs.Common.{◌≡◌, ℕ, take}
use Rattle.lay_placement.specs.AnchorLines.{ArePut}
use Rattle.lay_placement.specs.StaticPositions.{line_top}
use Rattle.lay_placement.proofs.AnchorRows.{rest_after}
use Rattle.lay_placement.proofs.anchor_lines.put_rows.Given as goal

abbrev pub invariant-loop-r : goal.invariant-loop-r
invariant-loop-r l = record {
  put : ArePut l.of.boxes.now l.of.container l.fn.tops l.tops (λ (k : ℕ). line_top (take l.r l.rows) l.segments k);
  rest : l.rest ≡ rest_after (take l.r l.rows) l.segments;
}
