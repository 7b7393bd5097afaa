pub mod Lists
pub mod Forms
pub mod Names
pub mod Given
pub mod Fitting
pub mod Bounds
pub mod Checking
pub mod Sizes
pub mod Answering
pub mod Written
pub mod Results
pub mod Characters
mod Rows
