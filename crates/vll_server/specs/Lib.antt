pub mod Headline
pub mod Text
pub mod Scripts
pub mod Private
