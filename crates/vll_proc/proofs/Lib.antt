mod Common
pub mod Equations
pub mod Noted
pub mod Lists
pub mod Turns
pub mod Nothing
pub mod Costs
pub mod Copy
pub mod Called
pub mod Alike
pub mod Runs
pub mod Local
pub mod Kept
pub mod Declared
pub mod Joined
pub mod Rows
