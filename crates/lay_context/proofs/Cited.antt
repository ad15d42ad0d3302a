-- The lemmas of other crates that the proofs of this crate rest on.
pub use Rattle.lay_abspos.proofs.OnePlace.{one_own_place_lem}
pub use Rattle.lay_abspos.proofs.SomeAbsoluteBox.{some_own_place_lem}
pub use Rattle.lay_box_tree.proofs.ContainerSteps.{container_within}
pub use Rattle.lay_contexts.proofs.ContextNumbers.{are_contexts, one_context_list_lem}
pub use Rattle.lay_contexts.proofs.FewContexts.{few_contexts}
pub use Rattle.lay_contexts.proofs.GrowingList.{all_listed, next_listed, none_listed, one_listed, one_passed}
pub use Rattle.lay_contexts.proofs.ListedSteps.{PlacesTo, all_places, no_more, not_true, one_more}
pub use Rattle.lay_contexts.proofs.NearestRoots.{HomesTo, one_more as one_home, own_or_parent, parent_before}
pub use Rattle.lay_contexts.proofs.OneStand.{contexts_stand_once}
pub use Rattle.lay_doc.proofs.NodeColumns.{length-parents}
pub use Rattle.lay_doc.proofs.OneStyles.{one_style_column_lem}
pub use Rattle.lay_flow_boxes.proofs.AskedSteps.{asked_any, asked_contents}
pub use Rattle.lay_frag.proofs.PieceLemmas.{length-page_pieces}
pub use Rattle.lay_placement.proofs.PieceSteps.{none_beyond}
pub use Rattle.lay_placement.proofs.StandingCounts.{length_standings}
pub use Rattle.lay_positioned.proofs.LevelSteps.{levels_are, levels_of}
pub use Rattle.lay_positioned.proofs.OneLevels.{leads_down, leads_out, level_inside}
pub use Rattle.lay_positioned.proofs.OneSetting.{alike}
pub use Rattle.lay_positioned.proofs.SettingValues.{containing, same_setting}
