-- A core by its parts, for functions that are given these.
use Rattle.std.specs.Prelude.{List}
use Rattle.lay_history.specs.declared.edits.history.Entry.{Entry}
use Rattle.lay_history.specs.Trees.{PublishedTreeValue}
use Rattle.lay_document_cells.specs.State.{State as DocumentCells}
use Rattle.lay_core.specs.State.{State, with_cells}

-- the core with these cells, history and trees
abbrev pub parts : State → DocumentCells → List Entry → List PublishedTreeValue → State
parts s d history trees = record (with_cells s d) { history = history; trees = trees }
