mod Common
pub mod Scanning
pub mod Leaving
pub mod Fruitless
pub mod Steps
pub mod Rows
pub mod Words
pub mod Meeting
pub mod Finding
