pub mod Names
pub mod Starts
pub mod MemberNumbers
pub mod Codes
pub mod KnownClasses
pub mod Decodings
pub mod ArrayTypes
