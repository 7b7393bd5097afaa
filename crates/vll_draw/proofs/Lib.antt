pub mod Windows
pub mod Taped
pub mod Steps
pub mod OneByOne
