pub mod Monitors
pub mod Records
