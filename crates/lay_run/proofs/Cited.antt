-- The lemmas of other crates that the proofs of this crate rest on.
pub use Rattle.lay_doc.proofs.EditedDocuments.{edits_leave_documents}
pub use Rattle.lay_doc.proofs.Indexed.{place_insert_here, place_insert_other}
pub use Rattle.lay_doc.proofs.Inserted.{ids_inserted, moved_read, text_size_inserted}
pub use Rattle.lay_doc.proofs.NodeColumns.{element_column, element_read, length-ids, length-parents}
pub use Rattle.lay_doc.proofs.PutTrees.{shifted_high, shifted_low}
pub use Rattle.lay_doc.proofs.Slots.{end_slot, slot_is}
pub use Rattle.lay_doc.proofs.Subtrees.{end_low, parent_behind}
pub use Rattle.lay_style.proofs.Places.{map_some, place_fresh, place_here, place_later}
