pub mod LeastPowers
pub mod SizeLemmas
