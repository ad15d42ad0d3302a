-- Within which bounds the answers of an equation of offsets are.
use Rattle.std.specs.Prelude.{ℤ, pos, neg_ℤ, ◌^◌, ◌≤ℤ◌}
use Rattle.lay_units.specs.Units.{IsUsed, IsUsedSize}
use Rattle.lay_units.specs.declared.records.AbsOut.{AbsOut}

pub record AbsOutFits (out : AbsOut) : Type 0 where
  pub left : IsUsed out.left.0
  pub margin_left : IsUsed out.margin_left.0
  pub width : IsUsedSize out.width.0
  pub margin_right : IsUsed out.margin_right.0

-- an offset and a margin together
abbrev pub IsStart : ℤ → Type 0
IsStart v = (neg_ℤ (pos (2 ^ 32)) ≤ℤ v) × (v ≤ℤ pos (2 ^ 32))
