pub mod SizesFit
pub mod OneSizes
