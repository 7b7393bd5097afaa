-- Cited by private contracts and by the views and invariants of types; no contract of an exported item cites it.
pub mod Acting
