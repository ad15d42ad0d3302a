-- The lemmas of other crates that the proofs of this crate rest on.
pub use Rattle.lay_box_tree.proofs.BoxForests.{IsForest, append, grow, none, parents-append, read_left, read_right, whole}
pub use Rattle.lay_doc.proofs.NodeColumns.{length-ids}
pub use Rattle.lay_style.proofs.Places.{place_within}
