pub mod EditLists
pub mod Answers
pub mod Laws
