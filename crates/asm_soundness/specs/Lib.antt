pub mod Pools
pub mod SoundStates
pub mod SoundLines
