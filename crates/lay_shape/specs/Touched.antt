pub mod TouchedContexts
pub mod TouchedKeys
pub mod ContextFlags
pub mod NumbersByNode
pub mod Laws
