-- The lemmas of other crates that the proofs of this crate rest on.
pub use Rattle.lay_box_tree.proofs.BoxForests.{length-parents}
pub use Rattle.lay_box_tree.proofs.ContainerSteps.{container_before, container_within, containers_are_nearest_lem, some_before}
pub use Rattle.lay_box_tree.proofs.NearestContainers.{containers_are_a_tree, one_container}
pub use Rattle.lay_floats.proofs.Unique.{one_room_lem}
pub use Rattle.lay_flow.proofs.BlocksLemmas.BoxTrees.{parent_is, parents_length}
pub use Rattle.lay_flow.proofs.PassEnds.{flags_at}
pub use Rattle.lay_line_measures.proofs.CutParts.{within}
pub use Rattle.lay_line_measures.proofs.SeenPens.{pen_seen, seen_at, take_more}
pub use Rattle.lay_lines.proofs.ContentLemmas.PenOrder.{some_at, times_more}
pub use Rattle.lay_lines.proofs.Steps.{all_fit, takes_some, top_fits}
pub use Rattle.lay_measure.proofs.WidestLines.{from_zero}
pub use Rattle.lay_sizes.proofs.SizesFit.{size_is_used}
