pub mod Forms
pub mod Pieces
pub mod PieceTests
pub mod Parts
pub mod Ways
pub mod Private
