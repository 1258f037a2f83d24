pub mod TurnsLemmas
pub mod SizeLemmas
