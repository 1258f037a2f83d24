pub mod OutputData
pub mod Checking
pub mod Packets
