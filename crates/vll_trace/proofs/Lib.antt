pub mod Retraced
pub mod Repeated
