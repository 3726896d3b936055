pub mod MainClass
pub mod Linking
pub mod Limits
pub mod Programs
pub mod Errors
pub mod Contents
pub mod LoadCauses
pub mod LinkCauses
