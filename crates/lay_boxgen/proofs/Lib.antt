pub mod Cited
mod Kept
mod KeptRuns
pub mod BoxMeasures
pub mod BoxStages
pub mod Broken
pub mod Replaced
pub mod Above
pub mod ContextFlags
pub mod CutNodes
pub mod CutParts
pub mod EveryBox
pub mod FewBoxes
pub mod FirstBoxes
pub mod InnerContexts
pub mod InnerLeaves
pub mod Inside
pub mod ListedContexts
pub mod ListedForests
pub mod ListedKinds
pub mod ListedLeaves
pub mod NodeForms
pub mod Putting
pub mod Settled
pub mod SplitNodes
pub mod WholeParts
pub mod WalkSteps
