pub mod EitherFlags
pub mod KeptRows
pub mod NeedPlaces
pub mod KeptTwice
pub mod SinceSteps
pub mod UnchangedInputs
