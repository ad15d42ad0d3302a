use Rattle.std.proofs.Common.{◌∙◌, sym}
use Rattle.lay_core.proofs.CleanCells.{told_clean}
use Rattle.lay_document_cells.specs.Settling.{none}
use Rattle.lay_core.proofs.publishing.settled.Goals as goal

pub returns-then-are_clean-clause-ok : goal.returns-then-are_clean-clause-ok
returns-then-are_clean-clause-ok c = record {
  settles = none;
  clean = told_clean c.args.cells.now.cells.rows (sym c.are_clean.ensures ∙ c.if-are_clean.true);
}
