pub mod Lists
pub mod Additions
pub mod Steps
pub mod Turns
pub mod Makings
pub mod Guests
