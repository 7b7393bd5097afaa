-- All that the headline needs of this crate, and nothing else.
pub mod Sessions
pub mod News
pub mod Found
