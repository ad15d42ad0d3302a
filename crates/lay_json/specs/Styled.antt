pub mod NamesByPlace
pub mod StyledReading
pub mod StyledChecks
pub mod Laws
