-- The lemmas of other crates that the proofs of this crate rest on.
pub use Rattle.lay_abspos.proofs.RelativeLemmas.OneMoves.{one_column_of_moves_lem}
pub use Rattle.lay_abspos.proofs.RelativeLemmas.SomeMoves.{some_column_of_moves_lem}
pub use Rattle.lay_box_tree.proofs.ContainerSteps.{container_within}
pub use Rattle.lay_flow.proofs.BlocksLemmas.OneContextFlow.{one_flow_of_lem}
pub use Rattle.lay_flow_boxes.proofs.FlowFacts.{given_fits, is_flow_tree, kind_with}
pub use Rattle.lay_flow_boxes.proofs.LinesAreItems.{boxes_in_lines_lem}
pub use Rattle.lay_flow_boxes.proofs.OneShapes.{one_flow_shape_lem}
pub use Rattle.lay_flow_boxes.proofs.SomeShapes.{some_flow_shape_lem}
pub use Rattle.lay_placements.proofs.PieceSteps.{more_pieces}
pub use Rattle.lay_placements.proofs.StandingColumns.{read_before, read_last}
pub use Rattle.lay_space.proofs.KeptContent.{breaks_keep_content_lem}
