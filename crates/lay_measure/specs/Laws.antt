-- Laws of preferred widths.
use Rattle.std.specs.Prelude.{◌≡◌, ◌≤ℤ◌, ℤ, pos, ◌+ℤ◌, List, [], ◌∷◌, map}
use Rattle.std.specs.Int.{int_max}
use Rattle.lay_measure.specs.Children.{block, block_widths, float}
use Rattle.lay_measure.specs.MeasureInValue.{MeasureInValue}
use Rattle.lay_measure.specs.PreferredWidths.{preferred_of}
use Rattle.lay_measure.specs.declared.preferred_widths.PreferredWidths.{PreferredWidths}

-- A box whose one child is a block is as wide as what that takes, where this isn't negative.
abbrev pub LoneBlockGivesItsWidths : Type 0
LoneBlockGivesItsWidths =
    (w : PreferredWidths) → pos 0 ≤ℤ w.minimum.0 → pos 0 ≤ℤ w.preferred.0 → block_widths (block w ∷ []) ≡ w

-- the preferred widths of these together
abbrev pub preferred_sum : List PreferredWidths → ℤ
preferred_sum [] = pos 0
preferred_sum (w ∷ ws) = w.preferred.0 +ℤ preferred_sum ws

-- Floats alone are as wide as all beside each other (9.5), and no wider than 0 where that is negative.
abbrev pub FloatsAloneAddUp : Type 0
FloatsAloneAddUp = (ws : List PreferredWidths) → (block_widths (map float ws)).preferred.0 ≡ int_max (preferred_sum ws) (pos 0)

-- neither is below 0
pub record AreFromZero (w : PreferredWidths) : Type 0 where
  pub minimum : pos 0 ≤ℤ w.minimum.0
  pub preferred : pos 0 ≤ℤ w.preferred.0

-- The content of a box has widths from 0 on, whatever stands in it, also where margins are negative or what is inside it has others.
abbrev pub PreferredWidthsAreFromZero : Type 0
PreferredWidthsAreFromZero = (m : MeasureInValue) → AreFromZero (preferred_of m)
