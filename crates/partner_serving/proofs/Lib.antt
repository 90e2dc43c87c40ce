pub mod Servings
pub mod Enters
pub mod Posts
pub mod Rests
pub mod Rows
pub mod OneRun
