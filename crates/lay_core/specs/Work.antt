-- Work on the cells of a core: the document, the history and the trees stay as they are.
use Rattle.std.specs.Prelude.{◌≡◌, ◌⊎◌}
use Rattle.lay_document_cells.specs.Settling.{CellsSettleTo, CellsStopAt}
use Rattle.lay_document_cells.specs.State.{State as DocumentCells}
use Rattle.lay_document_cells.specs.Steps.{Works}
use Rattle.lay_core.specs.State.{State, document_cells}

-- only cells and the number of grants change, and these as Does says
pub record ChangesCells (Does : DocumentCells → DocumentCells → Type 0) (s t : State) : Type 0 where
  pub does : Does (document_cells s) (document_cells t)
  pub state : t ≡ record s { cells = t.cells; laid = t.laid }

-- steps of work, or none
abbrev pub WorksTo : State → State → Type 0
WorksTo s t = ChangesCells Works s t

-- each dirty cell in order is laid out, or its value serves again, until none is dirty
abbrev pub SettlesTo : State → State → Type 0
SettlesTo s t = ChangesCells CellsSettleTo s t

-- that was begun, and memory ran out; cells that are clean by then stay so
abbrev pub StopsAt : State → State → Type 0
StopsAt s t = ChangesCells CellsStopAt s t

-- either, and so nothing else is changed
abbrev pub MaySettle : State → State → Type 0
MaySettle s t = SettlesTo s t ⊎ StopsAt s t
