mod Common
pub mod Counts
pub mod Shares
pub mod Both
pub mod Passed
pub mod ShortLists
pub mod Twice
pub mod Distinct
pub mod Fitting
pub mod Numbering
pub mod Indexed
pub mod Finding
