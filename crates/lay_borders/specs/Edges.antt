-- The collapsed borders of a whole table (CSS 2.2, 17.6.2). At each edge of the grid some borders
-- meet, and one of them wins. Inside a cell none meet, and an edge there has no border.
use Rattle.std.specs.Prelude.{ℕ, ◌≡◌, Option, Some, None, List, [], length, slice_get}
use Rattle.lay_borders.specs.declared.candidate.Cand.{Cand}
use Rattle.lay_borders.specs.Winner.{IsWinner}

-- the border of an edge where these meet
abbrev pub IsEdge : List Cand → Option Cand → Type 0
IsEdge borders None = borders ≡ []
IsEdge borders (Some w) = IsWinner borders w

-- the border of each edge, in the order of the edges
pub record AreResolved (meeting : List (List Cand)) (edges : List (Option Cand)) : Type 0 where
  pub as_many : length edges ≡ length meeting
  pub each : (k : ℕ) (borders : List Cand) (edge : Option Cand)
      → slice_get meeting k ≡ Some borders → slice_get edges k ≡ Some edge → IsEdge borders edge
