-- What the pass over the boxes of a context keeps, for its contracts alone: no definition of a flow stands here.
pub mod Struts
pub mod State
pub mod Bounds
pub mod LookAhead
pub mod Placed
pub mod Knows
pub mod Known
pub mod Clears
pub mod Columns
