pub mod Lists
pub mod Ring
