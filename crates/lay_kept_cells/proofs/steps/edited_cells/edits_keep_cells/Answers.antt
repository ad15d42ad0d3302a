use Rattle.lay_kept_cells.proofs.StepsLemmas.EditedRows.{edits_keep_cells_lem}
use Rattle.lay_kept_cells.proofs.steps.edited_cells.edits_keep_cells.Goals as goal

pub returns : goal.returns
returns c = edits_keep_cells_lem c.edits_leave_documents.ensures c.inputs_are_kept.ensures c.root_stays_first.ensures
