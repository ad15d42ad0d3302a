-- Within which bounds what cells need of their rows is.
use Rattle.std.specs.Prelude.{ℕ, ◌+◌, ◌≤◌, List, Option, Some, None, ⊤, All}
use Rattle.lay_units.specs.declared.length.Unit.{Unit as Length}
use Rattle.lay_units.specs.Units.{IsBoxSize}
use Rattle.lay_grid.specs.declared.heights.RowCell.{RowCell}
use Rattle.lay_sizes.specs.OwnBoxes.{IsBaseline}

abbrev pub MayBeBaseline : Option Length → Type 0
MayBeBaseline None = ⊤
MayBeBaseline (Some b) = IsBaseline b.0

-- a cell over one of so many rows at least, that needs a border box
pub record NeedFits (rows : ℕ) (need : RowCell) : Type 0 where
  pub some : 1 ≤ need.span
  pub inside : need.row + need.span ≤ rows
  pub height : IsBoxSize need.height.0
  pub baseline : MayBeBaseline need.baseline

abbrev pub NeedsFit : ℕ → List RowCell → Type 0
NeedsFit rows needs = All (NeedFits rows) needs
