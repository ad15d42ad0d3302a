pub mod Orders
pub mod Ends
pub mod Prefixes
pub mod Gathers
pub mod Faults
pub mod Roots
pub mod Walks
