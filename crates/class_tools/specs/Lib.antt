pub mod Due
pub mod Exact
pub mod Making
pub mod OneDue
