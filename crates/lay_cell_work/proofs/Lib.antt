pub mod Cited
pub mod CellLawsLemmas
pub mod ClaimListsLemmas
pub mod OutcomeLawsLemmas
pub mod FilledColumns
pub mod FilledParts
pub mod SameFilled
pub mod RootSteps
