pub mod PieceLemmas
pub mod NumberSteps
