pub mod QueueLawProofs
pub mod QueueLemmas
