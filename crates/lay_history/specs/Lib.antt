pub mod Edits
pub mod Histories
pub mod Legal
pub mod Calls
pub mod Trees
pub mod Laws
