pub mod Keys
pub mod Paths
pub mod Worlds
pub mod Records
