-- The lemmas of other crates that the proofs of this crate rest on.
pub use Rattle.lay_box_tree.proofs.BoxForests.{length-parents}
pub use Rattle.lay_box_tree.proofs.PartEnds.{no-part, noted, one-more, other-part}
pub use Rattle.lay_doc.proofs.Subtrees.{has_subtree_lem}
pub use Rattle.lay_widths.proofs.Unique.{bounded_same}
