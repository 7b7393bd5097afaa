-- Cited by private contracts and by the views and invariants of types; no contract of an exported item cites it.
pub mod Paired
pub mod Window
pub mod QueueKept
pub mod Execution
pub mod View
pub mod FirstWords
pub mod MachineKept
pub mod Draining
