pub mod Laws
pub mod Machine
pub mod State
pub mod Steps
pub mod Store
