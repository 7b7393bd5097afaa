pub mod Columns
pub mod OneByOne
pub mod Page
pub mod Taped
