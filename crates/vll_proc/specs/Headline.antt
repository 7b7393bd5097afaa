-- All that the headline needs of this crate, and nothing else.
pub mod Meaning
pub mod Serial
pub mod Text
pub mod Made
