pub mod Onto
pub mod Private
