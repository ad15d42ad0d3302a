-- What the type of a cell's input says of it: what it is given is of one phase, and what its roots give each other goes one way. Anonymous
-- tables and cells (CSS 2.2, 17.2.1) stand behind what they are in, so preferred widths and places can be worked out from the last root to
-- the first, and sizes from the first to the last.
use Rattle.std.specs.Prelude.{ℕ, ◌≡◌, ◌<◌, length, slice_get, Some}
use Rattle.lay_context.specs.declared.input.Input.{Input}
use Rattle.lay_context.specs.declared.input.Input.TheVariants as input
use Rattle.lay_context.specs.declared.task.Phase.{Phase}
use Rattle.lay_context.specs.declared.task.Phase.TheVariants as phase
use Rattle.lay_cell_work.specs.declared.root_spot.RootSpot.{RootSpot}
use Rattle.lay_cell_work.specs.CellInputs.{CellInput, RootInput}
use Rattle.lay_cell_work.specs.CellLocal.{boxes_given}

-- the phase of a task that is given this
abbrev pub phase_given : Input → Phase
phase_given (input.Measure i) = phase.Measure
phase_given input.Unmeasured = phase.Measure
phase_given (input.Size i) = phase.Size
phase_given (input.Place i at) = phase.Place
phase_given (input.PlaceTable i at) = phase.Place

-- the roots that are linked stand behind, and the one around a root stands before it
pub record LeadsInward (i : CellInput) : Type 0 where
  pub links : (r k l : ℕ) (x : RootInput) → slice_get i.roots r ≡ Some x → slice_get x.links k ≡ Some (Some l) → r < l
  pub around : (r : ℕ) (x : RootInput) (spot : RootSpot) → slice_get i.roots r ≡ Some x → x.around ≡ Some spot → spot.root < r

pub record CellInputFits (i : CellInput) : Type 0 where
  -- the context has its own box
  pub some : 0 < length i.roots
  pub phase : (r : ℕ) (x : RootInput) → slice_get i.roots r ≡ Some x → phase_given x.given ≡ i.key.phase
  pub inward : LeadsInward i
  -- an anonymous root stands at a box that the one around it is sized with
  pub spots : (r : ℕ) (x : RootInput) (spot : RootSpot) → slice_get i.roots r ≡ Some x → x.around ≡ Some spot
      → spot.place < length (boxes_given i.roots spot.root)
