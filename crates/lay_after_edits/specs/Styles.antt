pub mod Stretches
pub mod KeptStyles
pub mod WrittenOver
