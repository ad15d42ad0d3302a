-- The lemmas of other crates that the proofs of this crate rest on.
pub use Rattle.lay_contexts.proofs.ContextNumbers.{are_contexts, blank_before, blank_last}
pub use Rattle.lay_contexts.proofs.EditedLemmas.ChangedNodes.{Stays, changed-keeping, ids-stay, parents-stay}
pub use Rattle.lay_contexts.proofs.EditedLemmas.EditedContexts.{put-in, restyled}
pub use Rattle.lay_contexts.proofs.EditedLemmas.NamedPlaces.{place-is}
pub use Rattle.lay_contexts.proofs.EditedLemmas.OwnList.{are-own, got, own_nodes, own_places}
pub use Rattle.lay_contexts.proofs.EditedLemmas.RestyledAnchors.{anchors_keep_contexts_around}
pub use Rattle.lay_contexts.proofs.EditedLemmas.SameTrees.{SameNode, same-declarations, same-style}
pub use Rattle.lay_contexts.proofs.ListedSteps.{context_within, not_true}
pub use Rattle.lay_contexts.proofs.OneStand.{marked-true}
pub use Rattle.lay_contexts.proofs.OwnBoxes.{own_nodes_decide}
pub use Rattle.lay_contexts.proofs.SpotOrder.{context_boxes}
pub use Rattle.lay_doc.proofs.Changed.{column_stays}
pub use Rattle.lay_doc.proofs.Cut.{cut_read, length-cut, map-cut, old_high, old_low, old_place}
pub use Rattle.lay_doc.proofs.EditedDocuments.{there}
pub use Rattle.lay_doc.proofs.FoundSlots.{slot_found}
pub use Rattle.lay_doc.proofs.Indexed.{place_insert_here}
pub use Rattle.lay_doc.proofs.Inserted.{ids_inserted, map-map, parents_inserted}
pub use Rattle.lay_doc.proofs.NodeColumns.{length-ids, length-parents}
pub use Rattle.lay_doc.proofs.PutTrees.{shifted_high, shifted_low}
pub use Rattle.lay_doc.proofs.Removed.{closed_high, closed_low, parents_removed}
pub use Rattle.lay_doc.proofs.Subtrees.{end_is_slot, has_subtree_lem, parent_behind}
pub use Rattle.lay_inherit.proofs.StyleSteps.{all_known, inner, one_more}
pub use Rattle.lay_same.proofs.Lists.{at_place, same_lists}
pub use Rattle.lay_style.proofs.Places.{place_within}
