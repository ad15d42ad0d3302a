-- Borders whose widths are used sizes.
use Rattle.std.specs.Prelude.{ℕ, ◌≡◌, Some, List, slice_get}
use Rattle.lay_units.specs.Units.{IsUsedSize}
use Rattle.lay_borders.specs.declared.candidate.Cand.{Cand}

abbrev pub AreUsed : List Cand → Type 0
AreUsed borders = (k : ℕ) (border : Cand) → slice_get borders k ≡ Some border → IsUsedSize border.width.0
