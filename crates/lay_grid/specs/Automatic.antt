pub mod Sizes
pub mod Own
pub mod Spread
pub mod Bounds
pub mod AutoColumns
pub mod Fit
pub mod Laws
pub mod Pass
