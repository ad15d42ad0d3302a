use Rattle.std.proofs.Common.{◌≡◌, ◌+◌, ◌≤◌, length, map}
use Rattle.lay_cells.specs.Rows.{entry_of}
use Rattle.lay_document_cells.specs.Claims.{Passes}
use Rattle.lay_document_cells.specs.Walks.{IsWalked}
use Rattle.lay_document_cells.proofs.document_cells.DocumentCells.walk_on.Given as goal

abbrev pub invariant-loop-place : goal.invariant-loop-place
invariant-loop-place l = record {
  place : l.walk.place ≡ l.place;
  passes : Passes l.fn.self l.self;
  walked : IsWalked l.self.cells.rows l.walk.place l.walk.least;
  entries : map entry_of l.self.cells.rows ≡ map entry_of l.fn.self.cells.rows;
  draws : l.self.cells.draws + l.fn.walk.place ≤ l.fn.self.cells.draws + l.walk.place;
}
