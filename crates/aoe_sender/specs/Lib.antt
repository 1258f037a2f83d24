pub mod Laws
pub mod Marks
pub mod Stages
pub mod State
pub mod Steps
pub mod Tiles
