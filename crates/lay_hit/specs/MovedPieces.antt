-- The pieces of a context and how far they stand to the right and down on the page, all but the first.
use Rattle.std.specs.Prelude.{◌≡◌, ◌+ℤ◌}
use Rattle.lay_frag.specs.Pieces.{Context}
use Rattle.lay_hit.specs.declared.point.MovedPieces.{MovedPieces}

pub record AreMoved (c : Context) (m : MovedPieces) : Type 0 where
  pub pieces : m.pieces.now ≡ c.pieces
  pub right : m.right.0 ≡ c.rect.x.0
  pub down : m.down.0 ≡ c.rect.y.0 +ℤ c.shift.0
