-- The lemmas of other crates that the proofs of this crate rest on.
pub use Rattle.lay_box_tree.proofs.BoxForests.{parents-append}
pub use Rattle.lay_boxgen.proofs.Above.{kept_by, parent_generates}
pub use Rattle.lay_boxgen.proofs.BoxMeasures.{append, child_wrapped_less, filter_less, in_wrapper_less, parented_less, relevant_less, remade_less, run_wrapped_less, stage_less, sum_is, sum_with, total, totals}
pub use Rattle.lay_boxgen.proofs.CutNodes.{tree-cut}
pub use Rattle.lay_boxgen.proofs.CutParts.{part-cut}
pub use Rattle.lay_boxgen.proofs.EveryBox.{every-generated, every-in_box, every-kept, every-relevant, every-remade}
pub use Rattle.lay_boxgen.proofs.ListedForests.{boxes_are_a_tree_lem}
pub use Rattle.lay_boxgen.proofs.ListedLeaves.{inner_boxes_are_leaves_lem}
pub use Rattle.lay_boxgen.proofs.NodeForms.{IsBoxOf, IsNodeBox, is-node_box}
pub use Rattle.lay_boxgen.proofs.Putting.{put-trees_of}
pub use Rattle.lay_boxgen.proofs.WholeParts.{context_is_one_box, no_flow}
pub use Rattle.lay_doc.proofs.Changed.{column_stays, length-changed}
pub use Rattle.lay_doc.proofs.Cut.{cut_read, length-cut, old_inside, old_less, old_less_back, old_more, old_outside, old_place}
pub use Rattle.lay_doc.proofs.EditedDocuments.{edits_leave_documents, there}
pub use Rattle.lay_doc.proofs.FoundSlots.{slot_found}
pub use Rattle.lay_doc.proofs.Inserted.{moved_read}
pub use Rattle.lay_doc.proofs.NodeColumns.{length-ids}
pub use Rattle.lay_doc.proofs.PutTrees.{shifted_high, shifted_low}
pub use Rattle.lay_doc.proofs.Removed.{closed_high, closed_low, old_closed}
pub use Rattle.lay_doc.proofs.Subtrees.{end_is_slot, has_subtree_lem, parent_outside}
pub use Rattle.lay_style.proofs.Places.{map_some, place_here, place_later, place_within}
