pub mod Cancel
pub mod FlagBits
pub mod New
pub mod Messages
