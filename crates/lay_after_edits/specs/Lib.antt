pub mod Styles
pub mod Contexts
