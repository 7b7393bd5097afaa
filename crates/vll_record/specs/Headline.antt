-- All that the headline needs of this crate, and nothing else.
pub mod Claim
pub mod Counter
pub mod Word
pub mod Canon
