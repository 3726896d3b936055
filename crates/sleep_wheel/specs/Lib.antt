pub mod Sleepers
pub mod Alarms
pub mod Wheel
