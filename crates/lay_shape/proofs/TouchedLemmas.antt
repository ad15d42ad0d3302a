pub mod NodeNumbers
pub mod RisingNumbers
pub mod TouchedSteps
pub mod TouchedLaws
