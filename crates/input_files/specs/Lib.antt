pub mod Limits
pub mod Contents
pub mod Errors
pub mod LoadCauses
pub mod StoreFaults
