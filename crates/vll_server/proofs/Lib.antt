pub mod Served
pub mod Handed
pub mod Rows
