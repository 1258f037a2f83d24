pub mod Fragments
pub mod Laws
pub mod State
pub mod Steps
