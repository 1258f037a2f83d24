pub mod DueLemmas
pub mod KeySetLemmas
pub mod RingLemmas
pub mod SweepLemmas
mod TimersLemmas
pub mod WheelLemmas
