pub mod Arrays
pub mod Exceptions
pub mod Handlers
pub mod Instructions
pub mod Places
pub mod StaticPlaces
pub mod Tables
