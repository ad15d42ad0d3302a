-- The lemmas of other crates that the proofs of this crate rest on.
pub use Rattle.lay_after_edits.proofs.ContextsLemmas.KeptLinks.{links-stay, unflagged-stay}
pub use Rattle.lay_cell_work.proofs.CellLawsLemmas.CleanCells.{all_done, is_same_key, kept_right, key_is}
pub use Rattle.lay_cell_work.proofs.CellLawsLemmas.EndToEnd.{counted}
pub use Rattle.lay_cell_work.proofs.CellLawsLemmas.FittingInputs.{same_context}
pub use Rattle.lay_cell_work.proofs.CellLawsLemmas.RootsOfContexts.{AreCalm, IsOf, inner_is_of, number_is_of, own_number}
pub use Rattle.lay_cell_work.proofs.CellLawsLemmas.WholeInputs.{sizes_at}
pub use Rattle.lay_cells.proofs.Answered.{one_by_key}
pub use Rattle.lay_cells.proofs.ByPlace.{at_within}
pub use Rattle.lay_cells.proofs.Keeps.{draws_more}
pub use Rattle.lay_cells.proofs.Lists.{map_at, map_got, map_set_kept, one_at, set_cases, set_keeps_at, set_same}
pub use Rattle.lay_cells.proofs.Marked.{beside, marked_entry}
pub use Rattle.lay_cells.proofs.Reaching.{not_fresh_row, number_stale}
pub use Rattle.lay_context.proofs.GivenFacts.{inner_within, one_more_of}
pub use Rattle.lay_context.proofs.PlaceFacts.{stands}
pub use Rattle.lay_context.proofs.SizedFacts.{sizes_are_of_boxes}
pub use Rattle.lay_contexts.proofs.ContextFacts.{in_order, root_of, some_box, value_of}
pub use Rattle.lay_contexts.proofs.ContextNumbers.{are_contexts}
pub use Rattle.lay_contexts.proofs.EditedLemmas.NamedPlaces.{place-is, place-reads}
pub use Rattle.lay_contexts.proofs.EditedLemmas.StayingOutward.{place-there}
pub use Rattle.lay_contexts.proofs.FollowedLinks.{count_same, first_same}
pub use Rattle.lay_contexts.proofs.OneStand.{marked-true, within}
pub use Rattle.lay_contexts.proofs.RootNumbers.{Numbered, first_le, roots_lt}
pub use Rattle.lay_doc.proofs.EditedDocuments.{edits_leave_documents}
pub use Rattle.lay_doc.proofs.NodeColumns.{length-ids, length-parents}
pub use Rattle.lay_history.proofs.EditsLemmas.Lists.{lists_leave_documents, none_first}
pub use Rattle.lay_positioned.proofs.OneLevels.{leads_out}
pub use Rattle.lay_shape.proofs.BuildSteps.{key_apart}
pub use Rattle.lay_shape.proofs.CellOrder.{cell_in, cell_within}
pub use Rattle.lay_shape.proofs.KeptShapesLemmas.SameShape.{cells-stay}
pub use Rattle.lay_shape.proofs.Members.{in_map}
pub use Rattle.lay_shape.proofs.OwnNodes.{contexts_are_of_own_nodes_lem}
pub use Rattle.lay_shape.proofs.ShapeLawsLemmas.FirstContexts.{first_node, same_node}
pub use Rattle.lay_shape.proofs.ShapeLawsLemmas.FirstNodes.{first_id_stays}
