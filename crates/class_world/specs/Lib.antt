pub mod Numbers
pub mod World
