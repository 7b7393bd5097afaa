pub mod Served
pub mod Private
