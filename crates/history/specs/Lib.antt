pub mod Java
pub mod TraceText
pub mod Parsing
pub mod FirstBadLine
pub mod Reading
pub mod Carriers
