pub mod ClaimLists
pub mod Outcomes
