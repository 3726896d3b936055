pub mod Places
pub mod Arguments
pub mod Targets
pub mod Receivers
pub mod Natives
pub mod InvocationCache
pub mod FrameSteps
pub mod SynchronizedCalls
