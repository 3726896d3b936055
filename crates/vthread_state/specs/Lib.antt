pub mod Threads
pub mod JavaState
pub mod Joiners
pub mod Table
