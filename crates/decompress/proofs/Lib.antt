pub mod TokenLemmas
pub mod ReadLemmas
pub mod EntryLemmas
pub mod AlongLemmas
pub mod TakesLemmas
pub mod SoundLemmas
pub mod LawLemmas
pub mod MatchedLemmas
