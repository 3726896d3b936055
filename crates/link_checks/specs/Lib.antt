pub mod Firsts
pub mod ClassNames
pub mod ConstantUses
