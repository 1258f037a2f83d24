-- What is written: each rule that a packet may match is tried, the shortest SCHC packet comes
-- first, and it has so many bits.
pub mod FirstLemmas
pub mod ShorterLemmas
pub mod SizedFieldsLemmas
pub mod SchcPacketLemmas
pub mod CandidateLemmas
pub mod SplitsLemmas
pub mod SuspectLemmas
pub mod RoomLemmas
pub mod BoundLemmas
