-- The lemmas of other crates that the proofs of this crate rest on.
pub use Rattle.lay_boxgen.proofs.Settled.{drop-next}
pub use Rattle.lay_context.proofs.OneTree.{in_order}
pub use Rattle.lay_contexts.proofs.ListedFacts.{all_boxes}
pub use Rattle.lay_contexts.proofs.NodeFacts.{IsNodeTree, IsOfNode, node_tree}
pub use Rattle.lay_contexts.proofs.RootNumbers.{numbered}
pub use Rattle.lay_doc.proofs.NodeColumns.{length-parents}
pub use Rattle.lay_frag.proofs.PieceLemmas.{inner_piece, length-page_pieces, page_in_range, slice_get-append_left, slice_get-append_right, take_one_more}
pub use Rattle.lay_space.proofs.KeptContent.{breaks_keep_content_lem}
