pub mod ByNumber
pub mod Joins
pub mod Moves
pub mod Rows
