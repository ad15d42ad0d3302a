-- The lemmas of other crates that the proofs of this crate rest on.
pub use Rattle.lay_boxgen.proofs.InnerContexts.{inner_boxes_are_contexts}
pub use Rattle.lay_boxgen.proofs.NodeForms.{IsNodeBox, is-node_box}
pub use Rattle.lay_boxgen.proofs.WholeParts.{context_is_one_box}
pub use Rattle.lay_context.proofs.GivenFacts.{one_more_fits, one_more_near}
pub use Rattle.lay_context.proofs.OwnHeights.{own_height_fits}
pub use Rattle.lay_context.proofs.TaskInputs.{place_value, size_value, width_value}
pub use Rattle.lay_contexts.proofs.AtHome.{home_is, is_home, place_there}
pub use Rattle.lay_contexts.proofs.ChildTrees.{children_stand_in_order}
pub use Rattle.lay_contexts.proofs.ContextFacts.{home_low, home_root, home_there, in_order, is_behind, root_of, value_of}
pub use Rattle.lay_contexts.proofs.ContextNumbers.{are_contexts}
pub use Rattle.lay_contexts.proofs.FlowAround.{anonymous_in_flow, contexts_keep_flow}
pub use Rattle.lay_contexts.proofs.ListedFacts.{all_boxes}
pub use Rattle.lay_contexts.proofs.NearestRoots.{not_own, parent_low, root_home, same_home}
pub use Rattle.lay_contexts.proofs.NodeFacts.{box_within, of_node}
pub use Rattle.lay_contexts.proofs.NotedAround.{contexts_are_noted}
pub use Rattle.lay_contexts.proofs.OneStand.{contexts_stand_once}
pub use Rattle.lay_contexts.proofs.RootBoxes.{at_rank, inner_of, parent_of, place_other, place_root, rank_some}
pub use Rattle.lay_contexts.proofs.RootNumbers.{Numbered, first_le, number_lt, roots_lt, roots_no, roots_yes}
pub use Rattle.lay_contexts.proofs.SpotOrder.{boxes_there}
pub use Rattle.lay_contexts.proofs.StandingAnchors.{flow_of}
pub use Rattle.lay_doc.proofs.NodeColumns.{length-parents}
pub use Rattle.lay_positioned.proofs.SettingValues.{holder_is}
pub use Rattle.lay_same.proofs.Lists.{one_more, one_more_at, same_lists}
pub use Rattle.lay_shape.proofs.Members.{in_filter, in_flat_map, in_here, in_left, in_map, in_right, in_there}
pub use Rattle.lay_shape.proofs.ShapeLawsLemmas.ShapedNeeds.{root_anonymous}
pub use Rattle.lay_shape.proofs.ShapeLawsLemmas.WayContexts.{holder_of}
