pub mod KeyLists
pub mod KeySet
pub mod Laws
pub mod Sweep
pub mod Timers
pub mod Wheel
