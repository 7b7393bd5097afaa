pub mod Headline
pub mod Merge
pub mod Tallies
pub mod Private
