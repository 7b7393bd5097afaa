pub mod Shown
pub mod Tokens
pub mod Begin
pub mod Pool
pub mod Settled
