pub mod Answers
pub mod Chains
pub mod Turns
pub mod Paths
pub mod Numbers
pub mod Told
