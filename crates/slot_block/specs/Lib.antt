pub mod Block
pub mod StoredSlots
