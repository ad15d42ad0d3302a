pub mod WidestLines
pub mod ChildrenBefore
pub mod ChildLaws
pub mod FromZero
