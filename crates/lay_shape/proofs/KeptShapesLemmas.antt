pub mod SameLinks
pub mod SameWays
pub mod SameShape
pub mod KeptBoxes
pub mod Untouched
pub mod RisingNumbers
pub mod TouchedSteps
