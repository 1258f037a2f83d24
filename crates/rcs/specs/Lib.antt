pub mod Division
pub mod Words
