pub mod ContextSizes
pub mod ContextWidths
pub mod FlowSizes
pub mod Inputs
pub mod Laws
pub mod MeasuredContexts
pub mod ShrinkToFit
pub mod TableContexts
