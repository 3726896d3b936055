pub mod Arguments
pub mod NativeStates
pub mod Asked
