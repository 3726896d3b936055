pub mod Text
pub mod Units
pub mod Refusal
