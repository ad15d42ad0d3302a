use Rattle.std.proofs.Common.{ℕ, ◌+◌, ◌∙◌, length, refl, ap}
use Rattle.lay_borders.specs.Halves.{first_half, second_half}
use Rattle.lay_table_grid.specs.MeetingBorders.{meeting_above, meeting_left}
use Rattle.lay_table_grid.proofs.WidestEdges.{from_zero, half_along}
use Rattle.lay_table_grid.proofs.collapsed.outer_halves.Goals as goal

pub returns-clause-borders : goal.returns-clause-borders
returns-clause-borders c =
    let e = c.args.edges.now in
    record {
      top = half_along first_half (λ k. meeting_above e 0 (0 + k)) (λ k. meeting_above e 0 k) c.columns-columns.result e.columns _ _
          (λ k. ap (λ (n : ℕ). meeting_above e 0 n) (from_zero k)) c.columns-columns.ensures c.in_ok-top.ensures.widest c.first_half.ensures.value;
      bottom = half_along second_half (λ k. meeting_above e c.row_count.result (0 + k)) (λ k. meeting_above e (length e.rows) k) c.columns-columns.result e.columns _ _
          (λ k. ap (λ (n : ℕ). meeting_above e n (0 + k)) c.row_count.ensures ∙ ap (λ (n : ℕ). meeting_above e (length e.rows) n) (from_zero k)) c.columns-columns.ensures c.in_ok-bottom.ensures.widest c.second_half-2.ensures.value;
      left = half_along first_half (λ k. meeting_left e (0 + k) 0) (λ k. meeting_left e k 0) 1 1 _ _
          (λ k. ap (λ (n : ℕ). meeting_left e n 0) (from_zero k)) refl c.in_ok-left.ensures.widest c.first_half-2.ensures.value;
      right = half_along second_half (λ k. meeting_left e (0 + k) c.columns-columns.result) (λ k. meeting_left e k e.columns) 1 1 _ _
          (λ k. ap (λ (n : ℕ). meeting_left e (0 + k) n) c.columns-columns.ensures ∙ ap (λ (n : ℕ). meeting_left e n e.columns) (from_zero k)) refl c.in_ok-right.ensures.widest c.second_half.ensures.value;
    }
