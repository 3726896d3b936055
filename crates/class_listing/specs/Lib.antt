pub mod Flags
pub mod Methods
pub mod Listing
