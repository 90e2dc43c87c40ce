pub mod Places
pub mod Paths
pub mod Trees
pub mod Opens
pub mod Dirs
pub mod Stats
pub mod Asks
pub mod Worlds
