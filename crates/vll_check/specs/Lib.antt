pub mod Headline
pub mod Faults
pub mod Pieces
pub mod Entry
pub mod Names
pub mod Catalog
pub mod Calls
pub mod Private
