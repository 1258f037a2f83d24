pub mod Layout
pub mod Fields
pub mod Refusals
pub mod Checksum
pub mod Join
pub mod Laws
