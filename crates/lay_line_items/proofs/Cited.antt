-- The lemmas of other crates that the proofs of this crate rest on.
pub use Rattle.lay_box_tree.proofs.BoxForests.{length-parents}
pub use Rattle.lay_face.proofs.PlainTexts.{plain_at, plain_widths_are}
pub use Rattle.lay_space.proofs.CleanTexts.{clean_stays}
