pub mod Faults
pub mod Listing
pub mod Forms
pub mod Steps
