pub mod Attempts
pub mod Crossing
pub mod Onto
pub mod Opens
