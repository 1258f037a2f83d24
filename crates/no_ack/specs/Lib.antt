pub mod Fragments
pub mod Laws
pub mod ReceiverState
pub mod ReceiverSteps
pub mod SenderState
pub mod SenderSteps
