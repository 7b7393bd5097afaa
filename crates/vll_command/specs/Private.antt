-- Cited by private contracts; no contract of an exported item cites it.
pub mod Made
