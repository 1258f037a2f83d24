pub mod Data
pub mod Reading
pub mod Refusals
pub mod Stands
