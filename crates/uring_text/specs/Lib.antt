pub mod Lines
pub mod Script
pub mod Adding
pub mod Grammar
pub mod Report
pub mod Status
pub mod Faults
pub mod Laws
