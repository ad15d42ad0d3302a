pub mod WordKinds
pub mod Turns
pub mod FoundValues
pub mod Leaves
pub mod Whole
pub mod Found
pub mod Ranges
