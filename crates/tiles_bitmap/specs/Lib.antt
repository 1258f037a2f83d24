pub mod Laws
pub mod Numbers
pub mod Padding
pub mod Places
pub mod Tiles
