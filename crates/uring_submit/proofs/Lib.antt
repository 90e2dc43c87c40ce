pub mod Entered
pub mod Full
pub mod Unmoved
