pub mod Explained
pub mod Private
