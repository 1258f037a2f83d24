pub mod Records
pub mod Events
pub mod Outcomes
