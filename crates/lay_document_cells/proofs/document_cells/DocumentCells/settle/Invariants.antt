use Rattle.std.proofs.Common.{◌≡◌, ◌+◌, ◌≤◌, length}
use Rattle.lay_document_cells.specs.Settling.{AreCleanBefore, Settles}
use Rattle.lay_document_cells.proofs.document_cells.DocumentCells.settle.Given as goal

abbrev pub invariant-loop-place : goal.invariant-loop-place
invariant-loop-place l = record {
  settles : Settles l.fn.self l.self;
  clean : AreCleanBefore l.self.cells.rows l.place;
  count : length l.self.cells.rows ≡ length l.fn.self.cells.rows;
  draws : l.self.cells.draws ≤ l.fn.self.cells.draws + l.place;
}
