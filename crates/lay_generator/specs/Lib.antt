pub mod Draws
pub mod Nodes
pub mod Commands
pub mod Batches
pub mod Generated
pub mod Summary
pub mod LastDocuments
pub mod Laws
