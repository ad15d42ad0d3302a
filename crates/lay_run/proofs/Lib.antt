pub mod Cited
pub mod GatheredLemmas
