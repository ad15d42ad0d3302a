pub mod NoMoves
pub mod SomeFormers
pub mod SomeMoves
pub mod Ends
pub mod MoveSteps
pub mod Nearest
pub mod NextParts
pub mod OneMoves
