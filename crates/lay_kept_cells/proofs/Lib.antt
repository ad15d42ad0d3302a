pub mod Cited
pub mod StepsLemmas
pub mod ListStepsLemmas
pub mod TableLemmas
pub mod SettledLemmas
