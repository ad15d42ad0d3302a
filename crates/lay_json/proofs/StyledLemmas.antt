pub mod OneStyledReading
pub mod OneStyledCheck
pub mod Naming
