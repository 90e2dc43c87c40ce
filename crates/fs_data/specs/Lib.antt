pub mod Kinds
pub mod Modes
pub mod Paths
pub mod Records
