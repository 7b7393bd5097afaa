pub mod Headline
pub mod Claim
pub mod Counter
pub mod Word
pub mod Private
