pub mod CornerColumns
pub mod PieceCountSteps
pub mod PieceSteps
pub mod SplicedPieces
pub mod StandingColumns
pub mod NodeCountSteps
