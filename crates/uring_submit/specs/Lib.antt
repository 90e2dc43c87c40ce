pub mod Decisions
pub mod EnterBits
pub mod Errors
pub mod Submits
pub mod Registrations
pub mod Sent
pub mod Numbers
