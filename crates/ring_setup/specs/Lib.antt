pub mod Features
pub mod Laws
pub mod RingFlags
pub mod Setup
