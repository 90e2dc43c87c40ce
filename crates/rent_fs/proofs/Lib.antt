pub mod MakingLemmas
pub mod Wholes
