pub mod GivenNow
pub mod KeptReads
pub mod LinkedInputs
pub mod PlaceSteps
pub mod RootFlags
pub mod RootParts
pub mod RootSteps
pub mod RestyledTables
