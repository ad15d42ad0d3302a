pub mod Small
pub mod FloatDraws
pub mod FloatRequests
