-- The lemmas of other crates that the proofs of this crate rest on.
pub use Rattle.lay_cells.proofs.Lists.{map_at, map_got, one_at, set_cases, set_same}
pub use Rattle.lay_cells.proofs.OneAnswer.{not_both, one_row}
pub use Rattle.lay_cells.proofs.OneState.{one_reshape_lem}
pub use Rattle.lay_cells.proofs.Unchanged.{reshapes_to_itself}
pub use Rattle.lay_context.proofs.FlagSteps.{read_before, read_last}
pub use Rattle.lay_context.proofs.ListedContexts.{listed_to}
pub use Rattle.lay_contexts.proofs.ContextNumbers.{are_contexts}
pub use Rattle.lay_contexts.proofs.FewContexts.{few_contexts}
pub use Rattle.lay_doc.proofs.NodeColumns.{length-parents}
pub use Rattle.lay_history.proofs.EditsLemmas.Lists.{none_first}
pub use Rattle.lay_kept_cells.proofs.ListStepsLemmas.Viewports.{one_medium_of_all}
pub use Rattle.lay_shape.proofs.KeptShapesLemmas.KeptBoxes.{keep-boxes}
