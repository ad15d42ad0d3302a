pub mod Rules
pub mod StylesTo
pub mod StylesFit
pub mod Within
