pub mod Counting
pub mod InMemory
pub mod States
pub mod Reading
pub mod Writing
