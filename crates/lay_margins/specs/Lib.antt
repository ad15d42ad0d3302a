pub mod StrutValue
pub mod Collapse
pub mod Runs
pub mod RunsTo
pub mod Laws
