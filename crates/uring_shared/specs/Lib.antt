pub mod ListLaws
pub mod RingLaws
pub mod Seats
pub mod SeatLaws
pub mod SharedRings
pub mod Sides
