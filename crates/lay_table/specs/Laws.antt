-- A table has a placement, and one alone.
use Rattle.std.specs.Prelude.{◌≡◌}
use Rattle.lay_placements.specs.Placements.{Placement}
use Rattle.lay_table.specs.TableInputs.{TableInput}
use Rattle.lay_table.specs.TablePlacements.{IsTablePlacement}

abbrev pub OneTablePlacement : Type 0
OneTablePlacement = (i : TableInput) (p q : Placement) → IsTablePlacement i p → IsTablePlacement i q → p ≡ q

abbrev pub SomeTablePlacement : Type 0
SomeTablePlacement = (i : TableInput) → (p : Placement) × IsTablePlacement i p
