-- The lemmas of other crates that the proofs of this crate rest on.
pub use Rattle.lay_cell_work.proofs.CellLawsLemmas.CleanCells.{all_done, has_counts}
pub use Rattle.lay_cell_work.proofs.CellLawsLemmas.RootsOfContexts.{AreCalm}
pub use Rattle.lay_cells.proofs.Answered.{ready_at}
pub use Rattle.lay_cells.proofs.Keeps.{claim_row, draws_more, finish_row, give_back_row, set_sound}
pub use Rattle.lay_cells.proofs.Lists.{set_cases}
pub use Rattle.lay_cells.proofs.Marked.{beside}
pub use Rattle.lay_contexts.proofs.ContextNumbers.{are_contexts}
pub use Rattle.lay_doc.proofs.NodeColumns.{length-parents}
pub use Rattle.lay_history.proofs.Lists.{get_more, get_some, take_whole}
pub use Rattle.lay_history.proofs.OneMore.{accepted_more, call_count_more, calls_more, doc_after_more, doc_before, last_of_more, legal_more, published_more}
pub use Rattle.lay_history.proofs.Shown.{heads_same, own_first, tails_same}
pub use Rattle.lay_history.proofs.ShownVersions.{shown_last}
pub use Rattle.lay_history.proofs.Versions.{all_below, entries_are, few_versions, none_greater}
pub use Rattle.lay_kept_cells.proofs.StepsLemmas.ChangedRow.{apart, in_order}
pub use Rattle.lay_kept_cells.proofs.StepsLemmas.RowsOfContexts.{needs_are, row_of, value_is}
pub use Rattle.lay_kept_cells.proofs.StepsLemmas.StepsKeep.{claims_keep_cells_lem, finishes_keep_cells_lem, give_backs_keep_cells_lem}
pub use Rattle.lay_shape.proofs.BuildSteps.{key_apart}
pub use Rattle.lay_shape.proofs.CellOrder.{cell_in, cell_within, need_before}
pub use Rattle.lay_shape.proofs.Members.{in_map}
pub use Rattle.lay_shape.proofs.OwnNodes.{contexts_are_of_own_nodes_lem}
