pub mod Content
pub mod Filling
pub mod FloatNumbers
pub mod Laws
pub mod Lines
pub mod Meeting
pub mod Reaching
pub mod Rows
