pub mod Cited
pub mod StylesLemmas
pub mod ContextsLemmas
