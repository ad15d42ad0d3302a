-- What a cell is given: for each root of its context what the task of that is given, as far as it comes from outside the cell.
use Rattle.std.specs.Prelude.{ℕ, List, Option}
use Rattle.lay_context.specs.declared.input.Input.{Input}
use Rattle.lay_cell_work.specs.declared.root_spot.RootSpot.{RootSpot}
use Rattle.lay_shape.specs.declared.cell_key.CellKey.{CellKey}

pub record RootInput : Type 0 where
  pub given : Input
  -- which boxes of this root are those of other roots of the context, as far as their values are asked for
  pub links : List (Option ℕ)
  -- where the box of an anonymous root stands, as far as that is asked for
  pub around : Option RootSpot

pub record CellInput : Type 0 where
  pub key : CellKey
  -- that of each root: first of the context's own box, then of the anonymous ones in the order of their boxes
  pub roots : List RootInput
