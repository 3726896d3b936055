pub mod Linkings
pub mod Resolutions
pub mod Tables
pub mod PcTables
pub mod Places
pub mod Parts
pub mod ResolutionTables
pub mod KnownResolutions
