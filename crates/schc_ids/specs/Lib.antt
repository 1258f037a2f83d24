pub mod Ends
pub mod Fragments
pub mod Limits
pub mod Names
pub mod Params
pub mod PerDirection
pub mod PerRole
pub mod Texts
