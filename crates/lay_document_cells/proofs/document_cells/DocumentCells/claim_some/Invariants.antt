use Rattle.std.proofs.Common.{◌≡◌, ◌≤◌, length}
use Rattle.lay_document_cells.specs.Batches.{Grants}
use Rattle.lay_document_cells.specs.Walks.{DrawsFrom, IsWalked}
use Rattle.lay_document_cells.proofs.document_cells.DocumentCells.claim_some.Given as goal

abbrev pub invariant-loop-turn : goal.invariant-loop-turn
invariant-loop-turn l = record {
  grants : Grants l.fn.self l.list.claims l.self;
  count : length l.list.claims ≡ l.turn;
  room : l.list.room ≡ l.fn.list.room;
  walked : IsWalked l.self.cells.rows l.walk.place l.walk.least;
  draws : DrawsFrom l.fn.self 0 l.walk.place l.self;
  rows : length l.self.cells.rows ≡ length l.fn.self.cells.rows;
  end : l.turn ≤ l.fn.limit;
}
