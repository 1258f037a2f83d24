-- What is read: it is what the bits say, what was written comes back, and the other end restores
-- one packet.
pub mod KeptLemmas
pub mod RestoredLemmas
pub mod OneRestoredLemmas
pub mod SoundLemmas
pub mod ReadBackLemmas
pub mod OnePacketLemmas
pub mod UndroppedLemmas
pub mod DifferLemmas
pub mod UnpackedLemmas
pub mod SaysLemmas
