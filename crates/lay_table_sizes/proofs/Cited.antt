-- The lemmas of other crates that the proofs of this crate rest on.
pub use Rattle.lay_grid.proofs.AutomaticLemmas.ByNeed.{found_is}
pub use Rattle.lay_grid.proofs.AutomaticLemmas.Exists.{columns_have_bounds_lem}
pub use Rattle.lay_grid.proofs.AutomaticLemmas.Fills.{columns_are_within_lem}
pub use Rattle.lay_grid.proofs.AutomaticLemmas.OneBounds.{one_list_of_bounds_lem}
pub use Rattle.lay_grid.proofs.AutomaticLemmas.OneColumns.{one_list_of_columns_lem}
pub use Rattle.lay_grid.proofs.AutomaticLemmas.Room.{bounds_have_room_lem, minimums_at}
pub use Rattle.lay_grid.proofs.AutomaticLemmas.WithinBounds.{bounds_are_sizes_lem}
pub use Rattle.lay_grid.proofs.OneColumns.{one_columns_lem}
pub use Rattle.lay_grid.proofs.WidthsWithin.{widths_are_within_lem}
pub use Rattle.lay_sizes.proofs.OneSizes.{held_same}
pub use Rattle.lay_sizes.proofs.SizesFit.{WidthsFit, edge_is_inset, height_is_used, held_fit, size_is_used, used_size_is_used, vertical_margin_is_used, zero_is_size}
pub use Rattle.lay_widths.proofs.Exists.{some_block_width_lem, some_float_width_lem}
pub use Rattle.lay_widths.proofs.Unique.{one_block_width_lem, one_float_width_lem}
