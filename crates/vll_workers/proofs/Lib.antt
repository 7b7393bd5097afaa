pub mod AtWork
pub mod Merged
