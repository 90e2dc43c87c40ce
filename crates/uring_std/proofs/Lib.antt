pub mod Forms
pub mod Served
