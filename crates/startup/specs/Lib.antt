pub mod FirstFrames
pub mod FirstObjects
pub mod FirstStatics
pub mod Openings
pub mod Order
