-- Cited by private contracts alone.
pub mod Repeated
