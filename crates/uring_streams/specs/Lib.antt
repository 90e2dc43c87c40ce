pub mod Bytes
pub mod Inputs
pub mod States
pub mod Memory
pub mod Faults
