-- The lemmas of other crates that the proofs of this crate rest on.
pub use Rattle.lay_floats.proofs.Bounds.{place_within_lem}
pub use Rattle.lay_floats.proofs.Exists.{some_clear_edge_lem, some_float_place_lem, some_solid_place_lem}
pub use Rattle.lay_floats.proofs.Least.{Either, either_lt}
pub use Rattle.lay_floats.proofs.Unique.{one_clear_edge_lem, one_float_place_lem, one_room_lem, one_solid_place_lem}
pub use Rattle.lay_lines.proofs.LineLists.{one_list_of_rows_lem}
pub use Rattle.lay_lines.proofs.OneLines.{one_lines_lem}
