pub mod Names
pub mod Words
pub mod Numbers
pub mod Lengths
pub mod Reading
pub mod Laws
