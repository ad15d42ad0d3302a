-- The lemmas of other crates that the proofs of this crate rest on.
pub use Rattle.lay_abspos.proofs.OneAbsoluteBox.{one_absolute_sizes_lem, one_stretched_height_lem, one_table_left_lem}
pub use Rattle.lay_abspos.proofs.SomeAbsoluteBox.{some_absolute_sizes_lem, some_stretched_height_lem, some_table_left_lem}
pub use Rattle.lay_box_tree.proofs.ContainerSteps.{container_before}
pub use Rattle.lay_sizes.proofs.OneSizes.{one_box_sizes_lem}
pub use Rattle.lay_widths.proofs.Exists.{some_block_width_lem, some_float_width_lem}
pub use Rattle.lay_table_sizes.proofs.SizeSteps.{read_before, read_last}
