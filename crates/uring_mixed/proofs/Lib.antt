pub mod OneReading
pub mod Held
