pub mod Reading
pub mod Tokens
pub mod Cutting
pub mod Writing
