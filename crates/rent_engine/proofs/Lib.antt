pub mod Pumping
pub mod Executors
pub mod Runs
pub mod OneOps
pub mod Staying
pub mod Canceling
pub mod PlanLemmas
