pub mod PublishedLemmas
