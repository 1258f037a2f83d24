pub mod Data
pub mod Events
pub mod End
pub mod EndStep
pub mod Laws
