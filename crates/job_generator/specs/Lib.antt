pub mod Generator
pub mod Journal
pub mod Laws
