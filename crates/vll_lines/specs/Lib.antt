pub mod Request
pub mod Lines
pub mod Calls
pub mod Counts
pub mod Answers
pub mod Private
