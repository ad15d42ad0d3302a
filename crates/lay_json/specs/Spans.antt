pub mod Modes
pub mod Scans
pub mod Readings
pub mod Laws
