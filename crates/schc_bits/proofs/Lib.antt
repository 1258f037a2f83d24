pub mod ListLemmas
pub mod NumberBits
pub mod Octets
pub mod PartBits
pub mod Reading
pub mod WordBits
pub mod WordBytes
