-- Steps of work on the cells of a document. A claim is for what the cell would be given now, and each grant is counted. No step makes a
-- cell, drops one or dirties one.
use Rattle.std.specs.Prelude.{ℕ, ◌≡◌, ◌+◌, ◌<◌, length}
use Rattle.lay_cells.specs.Looks.{Looks}
use Rattle.lay_cells.specs.Steps.{ClaimsIn, FinishesIn, GivesBackIn}
use Rattle.lay_cells.specs.Progress.Grants.{grants}
use Rattle.lay_cells.specs.declared.answers.Claimed.{Claimed}
use Rattle.lay_cells.specs.declared.answers.Finished.{Finished}
use Rattle.lay_cells.specs.declared.answers.Look.TheVariants.{Ready}
use Rattle.lay_cells.specs.declared.answers.Released.{Released}
use Rattle.lay_context.specs.declared.task.Phase.{Phase}
use Rattle.lay_context.specs.Solves.{medium_of}
use Rattle.lay_shape.specs.declared.cell_key.CellKey.{CellKey}
use Rattle.lay_cell_work.specs.CellInputs.{CellInput}
use Rattle.lay_cell_work.specs.CellLocal.{IsCellLocal}
use Rattle.lay_cell_work.specs.PresentInputs.{key_of}
use Rattle.lay_cell_work.specs.ClaimLists.Outcomes.{Work}
use Rattle.lay_cell_work.specs.CellLaws.SoundCells.{CellState, input_now}
use Rattle.lay_shape.specs.Touched.ContextFlags.{ContextLists}
use Rattle.lay_document_cells.specs.State.{AreListsOf, State}

-- what the cell of the key is given now
pub record IsGivenNow (s : State) (key : CellKey) (input : CellInput) : Type 0 where
  pub lists : ContextLists
  pub lists_are : AreListsOf s.document lists
  pub context : ℕ
  pub phase : Phase
  pub within : context < length lists.contexts
  pub key_is : key ≡ key_of lists.contexts context phase
  pub input_is : input ≡ input_now (medium_of s.document s.face) lists.contexts lists.formatting_contexts s.cells.rows context phase

-- a claim of the key, whose cell is ready, for this input, which it is given now
pub record ClaimsTo (s : State) (key : CellKey) (input : CellInput) (answer : Claimed) (t : State) : Type 0 where
  pub ready : Looks s.cells.rows key Ready
  pub given : IsGivenNow s key input
  pub cells : CellState
  pub claims : ClaimsIn s.cells key input answer cells
  pub state : t ≡ record s { cells = cells; laid = s.laid + grants answer }

-- finished work, whose value is right beside its input
pub record CellsFinishTo (s : State) (d : Work) (answer : Finished) (t : State) : Type 0 where
  pub right : IsCellLocal d.input d.value
  pub cells : CellState
  pub finishes : FinishesIn s.cells d answer cells
  pub state : t ≡ record s { cells = cells }

-- a claim of the key that comes back without a value
pub record CellsGiveBackTo (s : State) (key : CellKey) (number : ℕ) (answer : Released) (t : State) : Type 0 where
  pub cells : CellState
  pub gives_back : GivesBackIn s.cells key number answer cells
  pub state : t ≡ record s { cells = cells }

pub data Step (s : State) : State → Type 0 where
  claim : (key : CellKey) (input : CellInput) (answer : Claimed) (t : State) → ClaimsTo s key input answer t → Step s t
  finish : (d : Work) (answer : Finished) (t : State) → CellsFinishTo s d answer t → Step s t
  give_back : (key : CellKey) (number : ℕ) (answer : Released) (t : State) → CellsGiveBackTo s key number answer t → Step s t

-- steps one after another, or none
pub data Works (s : State) : State → Type 0 where
  none : Works s s
  step : (mid t : State) → Works s mid → Step mid t → Works s t
