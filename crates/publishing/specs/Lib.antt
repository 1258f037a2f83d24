pub mod Published
pub mod Faults
