pub mod Bits
pub mod Held
pub mod Words
