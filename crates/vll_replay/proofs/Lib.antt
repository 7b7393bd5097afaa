pub mod Standing
pub mod Watched
pub mod Rows
