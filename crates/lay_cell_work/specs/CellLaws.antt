pub mod SoundCells
pub mod DocumentCells
pub mod Laws
pub mod SameContexts
pub mod KeptInputs
