-- The lemmas of other crates that the proofs of this crate rest on.
pub use Rattle.lay_json.proofs.StyledLemmas.OneStyledCheck.{check_too_long_lem, one_styled_check_lem}
pub use Rattle.lay_json.proofs.StyledLemmas.OneStyledReading.{one_styled_reading_lem, styled_too_long}
pub use Rattle.lay_words.proofs.Ranges.{in_range}
