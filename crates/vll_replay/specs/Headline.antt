-- All that the headline needs of this crate, and nothing else.
pub mod Text
