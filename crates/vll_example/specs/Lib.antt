pub mod Bank
pub mod Epochs
