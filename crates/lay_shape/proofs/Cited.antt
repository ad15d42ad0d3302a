-- The lemmas of other crates that the proofs of this crate rest on.
pub use Rattle.lay_after_edits.proofs.ContextsLemmas.Flags.{flag-before, flag-last}
pub use Rattle.lay_after_edits.proofs.ContextsLemmas.LaterList.{column}
pub use Rattle.lay_boxgen.proofs.NodeForms.{IsNodeBox, is-node_box}
pub use Rattle.lay_boxgen.proofs.WholeParts.{context_is_one_box}
pub use Rattle.lay_context.proofs.TaskOrder.{flow_inside}
pub use Rattle.lay_contexts.proofs.AtHome.{is_home, stands_there}
pub use Rattle.lay_contexts.proofs.ChildTrees.{children_stand_in_order}
pub use Rattle.lay_contexts.proofs.ContextFacts.{boxes_around, home_root, home_there, is_behind, spot_there}
pub use Rattle.lay_contexts.proofs.ContextNumbers.{are_contexts}
pub use Rattle.lay_contexts.proofs.FlowAround.{anonymous_in_flow}
pub use Rattle.lay_contexts.proofs.ListedSteps.{context_within}
pub use Rattle.lay_contexts.proofs.NearestRoots.{not_own, parent_low, root_home, same_home}
pub use Rattle.lay_contexts.proofs.NodeFacts.{box_within, of_node}
pub use Rattle.lay_contexts.proofs.NotedAround.{contexts_are_noted}
pub use Rattle.lay_contexts.proofs.RootBoxes.{at_rank, parent_at, place_other, place_root, rank_next, rank_some}
pub use Rattle.lay_contexts.proofs.StandingAnchors.{flow_of}
pub use Rattle.lay_doc.proofs.EditedDocuments.{edits_leave_documents}
pub use Rattle.lay_doc.proofs.NodeColumns.{length-parents}
pub use Rattle.lay_positioned.proofs.LevelSteps.{one_at_most}
pub use Rattle.lay_positioned.proofs.OneSetting.{one_holder_for}
pub use Rattle.lay_positioned.proofs.SettingValues.{holder_is}
