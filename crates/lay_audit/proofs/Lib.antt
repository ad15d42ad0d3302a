pub mod Cited
pub mod CheckLemmas
mod LineFacts
mod LineCounts
mod VerdictLaws
mod Fronts
mod NextEntries
mod Entries
mod PlayedTrees
mod ReadSteps
mod EndSteps
mod Completing
mod ComparedLines
mod TreeLines
mod Answering
mod NextReplies
mod Judging
mod Numbers
mod Rooms
mod Taking
mod LegalThere
mod FaultLaws
pub mod OnlyReplies
