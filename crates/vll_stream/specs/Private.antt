pub mod Faults
pub mod Parts
pub mod Stopped
pub mod Callers
pub mod Told
