pub mod Blocks
pub mod Pass
