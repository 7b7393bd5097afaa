pub mod Headline
pub mod ReplayText
pub mod Replay
pub mod Steps
pub mod Private
