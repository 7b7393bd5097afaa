pub mod Traced
pub mod Private
