pub mod Numbers
pub mod ListedDocuments
pub mod Listings
pub mod Links
pub mod Growth
pub mod Standing
