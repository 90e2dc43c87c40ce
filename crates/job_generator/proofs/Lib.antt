pub mod Listed
pub mod Settled
pub mod Grouping
