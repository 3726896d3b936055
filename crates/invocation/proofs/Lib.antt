pub mod InvocationLaws
pub mod PinLaws
pub mod ReceiverLaws
pub mod SelectionLaws
pub mod SynchronizedLaws
