pub mod Gained
pub mod Same
pub mod Fair
pub mod Hands
pub mod Owned
pub mod Distinct
pub mod Settled
pub mod Fit
