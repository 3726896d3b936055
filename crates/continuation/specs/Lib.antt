pub mod Continuation
pub mod Lending
