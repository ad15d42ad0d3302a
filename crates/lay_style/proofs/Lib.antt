pub mod Places
pub mod Declared
pub mod Cleared
