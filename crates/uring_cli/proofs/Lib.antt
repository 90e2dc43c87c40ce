pub mod Seeding
pub mod Executing
pub mod WordLemmas
pub mod WordsSaid
pub mod Ending
pub mod Named
pub mod SharedEnding
pub mod Generating
