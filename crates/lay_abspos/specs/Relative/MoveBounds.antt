-- Moves within bounds.
use Rattle.std.specs.Prelude.{ℕ, ◌<◌, List, length}
use Rattle.lay_units.specs.Units.{IsNear}
use Rattle.lay_abspos.specs.declared.relative.offset.Offset.{Offset}
use Rattle.lay_abspos.specs.Relative.Moves.{move_at}

pub record IsMoveNear (o : Offset) : Type 0 where
  pub right : IsNear o.right.0
  pub down : IsNear o.down.0

abbrev pub AreNearMoves : List Offset → Type 0
AreNearMoves moves = (k : ℕ) → k < length moves → IsMoveNear (move_at moves k)
