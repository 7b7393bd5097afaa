pub mod Headline
pub mod Status
pub mod Placing
pub mod Scan
pub mod Laws
pub mod Private
