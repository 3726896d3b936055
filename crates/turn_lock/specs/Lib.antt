pub mod Seats
pub mod Views
pub mod Badges
pub mod Rules
pub mod Moves
pub mod Collected
