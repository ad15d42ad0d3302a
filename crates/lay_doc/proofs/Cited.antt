-- The lemmas of other crates that the proofs of this crate rest on.
pub use Rattle.lay_style.proofs.Places.{map_none, place_fresh, place_here, place_later, place_none, place_within}
