pub mod FrameRows
pub mod Places
pub mod QuickCode
pub mod Runs
pub mod Stops
pub mod Fetched
pub mod Tops
