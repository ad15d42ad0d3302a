pub mod InsertedPlace
pub mod StyleLists
pub mod WrittenStyles
pub mod MovedStyles
pub mod ChangedNodes
pub mod InsertedNodes
pub mod RemovedNodes
pub mod EditedStyles
