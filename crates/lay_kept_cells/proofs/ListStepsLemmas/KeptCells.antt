-- Cells that follow the contexts of a document through a list of edits are those of the document after it.
use Rattle.lay_history.specs.Edits.EditLists.{after_all}
use Rattle.lay_kept_cells.proofs.Cited.{lists_leave_documents}
use Rattle.lay_cell_work.specs.CellLaws.KeptInputs.{InputsAreKept}
use Rattle.lay_kept_cells.proofs.StepsLemmas.FollowedRows.{followed}
use Rattle.lay_kept_cells.specs.ListSteps.EditedLists.{ListsKeepCells, TakesList}
use Rattle.lay_kept_cells.proofs.ListStepsLemmas.Roots.{root_stays}
use Rattle.lay_kept_cells.proofs.ListStepsLemmas.Viewports.{one_medium_of_all}

pub lists_keep_cells_lem : InputsAreKept → ListsKeepCells
lists_keep_cells_lem kept d edits face styles others contexts later all rest s t takes cells are of follows sound =
    let own : TakesList d edits cells.styles others =
    record { document = cells.is_document; puts = takes.puts; accepted = takes.accepted; before = cells.has_styles; after = takes.after } in
    followed kept d (after_all d edits) face contexts later all rest s t cells others
    (lists_leave_documents d edits cells.is_document takes.puts takes.accepted) takes.after are of
    (root_stays d edits cells.styles others contexts later own cells.are_contexts are) follows sound
    (one_medium_of_all d edits face)
