-- The lemmas of other crates that the proofs of this crate rest on.
pub use Rattle.lay_history.proofs.EditsLemmas.Firsts.{first_is, first_within}
pub use Rattle.lay_history.proofs.Lists.{get_some, take_more, take_whole}
pub use Rattle.lay_history.proofs.OneMore.{accepted_more, calls_more, doc_after_more, doc_before, legal_more, published_more}
pub use Rattle.lay_history.proofs.Shown.{own_first}
pub use Rattle.lay_history.proofs.ShownVersions.{shown_last}
pub use Rattle.lay_history.proofs.Versions.{all_below, last_of_all, none_greater}
pub use Rattle.lay_report.proofs.Joined.{AllLack, decimal_lacks, lacks_append, lacks_parts, same_front}
pub use Rattle.lay_report.proofs.ReportLines.{entry_body, entry_ended, entry_lacks, final_body, laid_body, tree_all_lack, tree_bodies, tree_joined}
pub use Rattle.lay_report.proofs.Telling.{entry_same}
